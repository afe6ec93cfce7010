use Rattle.std.proofs.Common.{false, sym, subst, ◌∙◌}
use Rattle.tool_output.specs.Outside.{directory_at, stream_at}
use Rattle.listing_text.specs.declared.cause.Cause.{Cause}
use Rattle.spool_check.specs.CheckOutcome.{Checks}
use Rattle.spool_check.specs.inside.CheckParts.{cause_by}
use Rattle.spool_check.proofs.CheckLemmas.{listed, look_stopped, stop_by, tells_no_file, tells_no_lock}
use Rattle.spool_check.proofs.program.list_faults.Goals as goal

pub returns-in_err-found-clause-checked : goal.returns-in_err-found-clause-checked
returns-in_err-found-clause-checked g c = λ to. record {
  visit = c.in_err-found.ensures.looks.visit;
  checks =
      let at = stream_at g.O.Sink c.args.out.now in
      let first = c.in_err-found.ensures.looks.visit.first in
      let last = c.in_err-found.ensures.looks.visit.last in
      subst (λ (cause : Cause). Checks false g.H.Host.tells first last to to at at cause)
      (sym (stop_by c.from_residual.result c.in_err-found.field-0.0 c.from_residual.ensures.1))
      (look_stopped false g.H.Host.tells first last to at c.in_err-found.field-0.0.cause c.in_err-found.ensures.looks.leaves
      c.in_err-found.ensures.comes);
}

pub returns-clause-risen : goal.returns-clause-risen
returns-clause-risen g c = λ to. record {
  file_fault = λ is. absurd (tells_no_file g.O.Sink.tells c.as_slice.result.now (stream_at g.O.Sink c.args.out.now).sink
      (stream_at g.O.Sink c.tell_outside.new.out).sink c.tell_outside.result c.tell_outside.ensures.tells is);
  busy = λ is. absurd (tells_no_lock g.O.Sink.tells c.as_slice.result.now (stream_at g.O.Sink c.args.out.now).sink
      (stream_at g.O.Sink c.tell_outside.new.out).sink c.tell_outside.result c.tell_outside.ensures.tells is);
  output_fault = c.tell_outside.ensures.tells.failed;
}

pub returns-clause-checked : goal.returns-clause-checked
returns-clause-checked g c = λ to. record {
  visit = c.in_ok-found.ensures.looks.visit;
  checks = listed g.H.Host.tells c.in_ok-found.ensures.looks.visit.first c.in_ok-found.ensures.looks.visit.last to c.as_slice.result.now
      (stream_at g.O.Sink c.args.out.now) (stream_at g.O.Sink c.tell_outside.new.out) c.tell_outside.result
      c.in_ok-found.ensures.looks.leaves (λ tells. c.as_slice.ensures ∙ c.in_ok-found.ensures.looks.found tells)
      c.tell_outside.ensures.tells;
}
