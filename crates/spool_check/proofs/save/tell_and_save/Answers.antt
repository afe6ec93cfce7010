use Rattle.std.proofs.Common.{◌≡◌, true, sym, subst, ap, ◌∙◌}
use Rattle.tool_output.specs.Outside.{directory_at, stream_at}
use Rattle.host_calls.specs.Directory.{Files}
use Rattle.host_calls.specs.World.{World, reading}
use Rattle.listing_text.specs.declared.cause.Cause.{Cause}
use Rattle.listing_text.specs.declared.cause.Cause.TheVariants.{Done}
use Rattle.spool_faults.specs.Listed.{LeavesDirectory}
use Rattle.spool_check.specs.CheckOutcome.{Checks, Writes}
use Rattle.spool_check.specs.inside.CheckParts.{cause_by}
use Rattle.spool_check.proofs.CheckLemmas.{host_stop, look_stopped, save_done, save_stopped, stop_by, tell_done, tell_stopped}
use Rattle.spool_check.proofs.save.tell_and_save.Goals as goal

pub returns-in_err-found-clause-checks : goal.returns-in_err-found-clause-checks
returns-in_err-found-clause-checks g c =
    look_stopped true g.H.Host.tells (g.H.Host.world c.args.from.now) (g.H.Host.world c.diagnose.new.host)
    (directory_at g.G.Host c.args.to.now) (stream_at g.O.Sink c.args.out.now) (cause_by c.from_residual.result)
    c.diagnose.ensures.leaves (host_stop c.from_residual.result c.in_err-found.field-0.0 c.from_residual.ensures.1)

pub returns-in_err-verdict-clause-checks : goal.returns-in_err-verdict-clause-checks
returns-in_err-verdict-clause-checks g c =
    let first = g.H.Host.world c.args.from.now in
    let last = g.H.Host.world c.diagnose.new.host in
    let to = directory_at g.G.Host c.args.to.now in
    let was = stream_at g.O.Sink c.args.out.now in
    let is = stream_at g.O.Sink c.report_faults.new.out in
    subst (λ (cause : Cause). Checks true g.H.Host.tells first last to to was is cause)
    (sym (stop_by c.from_residual-in_err-verdict.result c.in_err-verdict.field-0.0 c.from_residual-in_err-verdict.ensures.1))
    (tell_stopped true g.H.Host.tells first last to c.as_slice.result.now was is c.in_err-verdict.field-0.0 c.diagnose.ensures.leaves
    (λ tells. c.as_slice.ensures ∙ c.in_ok-found.ensures.faults tells) c.in_err-verdict.ensures.tells)

pub returns-in_err-save-clause-checks : goal.returns-in_err-save-clause-checks
returns-in_err-save-clause-checks g c =
    let first = g.H.Host.world c.args.from.now in
    let last = g.H.Host.world c.save.new.from in
    let old = directory_at g.G.Host c.args.to.now in
    let new = directory_at g.G.Host c.save.new.to in
    let was = stream_at g.O.Sink c.args.out.now in
    let is = stream_at g.O.Sink c.report_faults.new.out in
    subst (λ (cause : Cause). Checks true g.H.Host.tells first last old new was is cause)
    (sym (stop_by c.from_residual-in_err-save.result c.in_err-save.field-0.0 c.from_residual-in_err-save.ensures.1))
    (save_stopped g.H.Host.tells first last old new was is c.in_ok-verdict.verdict c.in_err-save.field-0.0.cause
    (λ tells. subst (λ (world : World). LeavesDirectory first world) (sym (c.save.ensures.looks tells)) (c.diagnose.ensures.leaves tells))
    (tell_done g.H.Host.tells first c.as_slice.result.now was is c.in_ok-verdict.verdict (λ tells. c.as_slice.ensures
    ∙ c.in_ok-found.ensures.faults tells) c.in_ok-verdict.ensures.tells)
    c.in_err-save.ensures.comes
    (λ tells. subst (λ (files : Files). Writes files old new c.in_err-save.field-0.0.cause) (c.diagnose.ensures.leaves tells).same
    (c.in_err-save.ensures.saves tells)))

pub returns-clause-checks : goal.returns-clause-checks
returns-clause-checks g c =
    let first = g.H.Host.world c.args.from.now in
    let last = g.H.Host.world c.save.new.from in
    let old = directory_at g.G.Host c.args.to.now in
    let new = directory_at g.G.Host c.save.new.to in
    let was = stream_at g.O.Sink c.args.out.now in
    let is = stream_at g.O.Sink c.report_faults.new.out in
    save_done g.H.Host.tells first last old new was is c.in_ok-verdict.verdict
    (λ tells. subst (λ (world : World). LeavesDirectory first world) (sym (c.save.ensures.looks tells)) (c.diagnose.ensures.leaves tells))
    (tell_done g.H.Host.tells first c.as_slice.result.now was is c.in_ok-verdict.verdict (λ tells. c.as_slice.ensures
    ∙ c.in_ok-found.ensures.faults tells) c.in_ok-verdict.ensures.tells)
    (λ tells. subst (λ (files : Files). Writes files old new Done) (c.diagnose.ensures.leaves tells).same
    (c.in_ok-save.ensures.saves tells))
