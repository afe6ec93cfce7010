use Rattle.std.proofs.Common.{map, string_bytes, subst, sym}
use Rattle.at_words.specs.Requests.{request_of}
use Rattle.tool_output.specs.Sinks.{sink_at}
use Rattle.listing_text.specs.declared.cause.Cause.{Cause}
use Rattle.at_day.specs.inside.DayParts.{IsDayRequest}
use Rattle.at_day.specs.Programs.{EndsMade}
use Rattle.at_day.proofs.ProgramLemmas.{ends_asked, ends_unasked}
use Rattle.at_day.proofs.RequestLemmas.{IsDayAsked, day_asked}
use Rattle.at_day.proofs.run_program.make_run.Goals as goal

pub events_asked-requires : goal.events_asked-requires
events_asked-requires g c = subst IsDayAsked (sym c.in-Ok.ensures.asked) (day_asked (map string_bytes c.args.words.now) c.requires)

pub put_day-requires : goal.put_day-requires
put_day-requires g c =
    subst IsDayRequest c.events_asked.ensures
    (subst IsDayAsked (sym c.in-Ok.ensures.asked) (day_asked (map string_bytes c.args.words.now) c.requires))

pub returns-in-Ok-clause-day : goal.returns-in-Ok-clause-day
returns-in-Ok-clause-day g c =
    let old = sink_at (g.O.Sink.content c.args.out.now) (g.O.Sink.outlet c.args.out.now) in
    let new = sink_at (g.O.Sink.content c.put_day.new.out) (g.O.Sink.outlet c.put_day.new.out) in
    ends_asked g.O.Sink.tells (request_of (map string_bytes c.args.words.now)) c.in-Ok.asked c.events_asked.result old new
    c.cause_of_put.result c.in-Ok.ensures.asked c.events_asked.ensures
    (subst (λ (cause : Cause). EndsMade g.O.Sink.tells c.events_asked.result old new cause)
    (sym c.cause_of_put.ensures) c.put_day.ensures.puts)

pub returns-in-Err-clause-day : goal.returns-in-Err-clause-day
returns-in-Err-clause-day g c = rw c.cause_of_words.ensures
    (ends_unasked g.O.Sink.tells (request_of (map string_bytes c.args.words.now)) c.in-Err.fault
    (sink_at (g.O.Sink.content c.args.out.now) (g.O.Sink.outlet c.args.out.now)) (day_asked (map string_bytes c.args.words.now) c.requires)
    c.in-Err.ensures.asked)
