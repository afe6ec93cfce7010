use Rattle.std.proofs.Common.{codes, map, refl, string_bytes, subst}
use Rattle.listing_text.specs.declared.cause.Cause.{Cause}
use Rattle.tool_output.specs.SaidLines.{IsSaid}
use Rattle.tool_output.specs.Sinks.{sink_at}
use Rattle.at_mail.specs.TrimProgram.{trim_outside}
use Rattle.at_mail.specs.TrimWords.{trim_asked}
use Rattle.at_mail.proofs.TrimProgramLemmas.{asked_ends, unasked_ends}
use Rattle.at_mail.proofs.trim_tool.trim_as_asked.Goals as goal

pub returns-in-Ok-clause-trims : goal.returns-in-Ok-clause-trims
returns-in-Ok-clause-trims g c =
    asked_ends (trim_asked (map string_bytes c.args.words.now)) _ (trim_outside g.H.Host g.E.Sink c.args.host.now c.args.err.now)
    (trim_outside g.H.Host g.E.Sink c.trim-end.new.host c.say_cause.new.err) c.say_cause.result c.in-Ok.ensures (record {
      end = c.trim-end.result;
      trims = c.trim-end.ensures;
      says = subst (λ (of : Cause).
          IsSaid (codes "atpost") g.E.Sink.tells of (sink_at (g.E.Sink.content c.args.err.now) (g.E.Sink.outlet c.args.err.now))
          (sink_at (g.E.Sink.content c.say_cause.new.err) (g.E.Sink.outlet c.say_cause.new.err)) c.say_cause.result) c.cause_of_end.ensures
          c.say_cause.ensures.said;
    })

pub returns-in-Err-clause-trims : goal.returns-in-Err-clause-trims
returns-in-Err-clause-trims g c =
    unasked_ends (trim_asked (map string_bytes c.args.words.now)) (trim_outside g.H.Host g.E.Sink c.args.host.now c.args.err.now)
    (trim_outside g.H.Host g.E.Sink c.args.host.now c.say_cause-in-Err.new.err) c.say_cause-in-Err.result c.in-Err.fault
    c.in-Err.ensures (record {
      session = refl;
      spool = refl;
      says = subst (λ (of : Cause).
          IsSaid (codes "atpost") g.E.Sink.tells of (sink_at (g.E.Sink.content c.args.err.now) (g.E.Sink.outlet c.args.err.now))
          (sink_at (g.E.Sink.content c.say_cause-in-Err.new.err) (g.E.Sink.outlet c.say_cause-in-Err.new.err)) c.say_cause-in-Err.result)
          c.cause_of_words.ensures c.say_cause-in-Err.ensures.said;
    })
