use Rattle.std.proofs.Common.{map, refl, string_bytes}
use Rattle.std.specs.Prelude.{codes}
use Rattle.at_words.specs.Requests.{request_of}
use Rattle.tool_output.specs.Sinks.{sink_at}
use Rattle.at_day.proofs.ProgramLemmas.{day_said, line_said}
use Rattle.at_day.proofs.run_program.answer_day.Goals as goal

pub returns-clause-code : goal.returns-clause-code
returns-clause-code g c = rw c.of.ensures refl

pub returns-clause-day : goal.returns-clause-day
returns-clause-day g c = rw c.of.ensures
    (day_said g.O.Sink.tells
    (sink_at (g.O.Sink.content c.args.out.now) (g.O.Sink.outlet c.args.out.now))
    (sink_at (g.O.Sink.content c.make_run-cause.new.out) (g.O.Sink.outlet c.make_run-cause.new.out))
    c.make_run-cause.result (request_of (map string_bytes c.args.words.now)) c.say_cause.result c.say_cause.ensures.same_or_memory
    c.make_run-cause.ensures.day)

pub returns-clause-says : goal.returns-clause-says
returns-clause-says g c = rw c.of.ensures
    (line_said (codes "atday") (sink_at (g.E.Sink.content c.args.err.now) (g.E.Sink.outlet c.args.err.now))
    (sink_at (g.E.Sink.content c.say_cause.new.err) (g.E.Sink.outlet c.say_cause.new.err)) g.E.Sink.tells
    c.make_run-cause.result c.say_cause.result c.say_cause.ensures.said)
