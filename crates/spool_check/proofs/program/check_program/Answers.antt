use Rattle.std.proofs.Common.{ap, codes, sym, subst}
use Rattle.tool_output.specs.Outside.{stream_at}
use Rattle.tool_output.specs.SaidLines.{IsSaid}
use Rattle.listing_text.specs.declared.cause.Cause.{Cause}
use Rattle.listing_text.specs.declared.status.Status.{Status}
use Rattle.spool_check.proofs.program.check_program.Goals as goal

pub returns-clause-ends : goal.returns-clause-ends
returns-clause-ends g c = record {
  cause = c.check_by_words-cause.result;
  does = c.check_by_words-cause.ensures.does;
  says = subst (λ (final : Cause). IsSaid (codes "atcheck") g.E.Sink.tells c.check_by_words-cause.result
      (stream_at g.E.Sink c.args.err.now).sink (stream_at g.E.Sink c.say_cause.new.err).sink final)
      (sym (ap (λ (status : Status). status.cause) c.of.ensures)) c.say_cause.ensures.said;
}
