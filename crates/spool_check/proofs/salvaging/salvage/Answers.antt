use Rattle.std.proofs.Common.{sym, subst}
use Rattle.std.specs.Prelude.{OnOk}
use Rattle.host_calls.specs.Directory.{Files}
use Rattle.host_calls.specs.World.{World, reading}
use Rattle.spool_faults.specs.Listed.{LeavesDirectory}
use Rattle.spool_faults.specs.Plan.{IsPlanOf}
use Rattle.spool_check.specs.declared.fault.SalvageFault.TheVariants.{NotEmpty, ToFailed}
use Rattle.spool_check.specs.SalvageOutcome.{HasSalvage, IsSalvaging}
use Rattle.whole_file.specs.Others.{ChangesFiles}
use Rattle.whole_file.proofs.OthersLemmas.{changes_none}
use Rattle.spool_check.proofs.FaultLemmas.{no_other, source_not_empty, source_not_target, unmoved}
use Rattle.spool_check.proofs.salvaging.salvage.Goals as goal

pub returns-in_err-diagnosis-clause-to : goal.returns-in_err-diagnosis-clause-to
returns-in_err-diagnosis-clause-to g c =
    unmoved ToFailed (g.G.Host.session c.args.to.now) c.from_residual.result c.requires.inside_to
    (no_other c.in_err-diagnosis.field-0.0 ToFailed c.from_residual.result
    (source_not_target c.in_err-diagnosis.field-0.0 c.in_err-diagnosis.ensures.of) c.from_residual.ensures.1)

pub returns-in_err-diagnosis-clause-refused : goal.returns-in_err-diagnosis-clause-refused
returns-in_err-diagnosis-clause-refused g c = λ told is.
    absurd (no_other c.in_err-diagnosis.field-0.0 NotEmpty c.from_residual.result
    (source_not_empty c.in_err-diagnosis.field-0.0 c.in_err-diagnosis.ensures.of) c.from_residual.ensures.1 is)

pub returns-in_err-diagnosis-clause-files : goal.returns-in_err-diagnosis-clause-files
returns-in_err-diagnosis-clause-files g c = λ tells told.
    changes_none (IsSalvaging (reading (g.H.Host.world c.args.from.now)) (g.G.Host.world c.args.to.now).now.directory)
    (g.G.Host.world c.args.to.now)

pub fill_target-requires-clause-plan : goal.fill_target-requires-clause-plan
fill_target-requires-clause-plan g c = λ tells.
    subst (λ (files : Files). IsPlanOf files c.in_ok-diagnosis.diagnosis.plan.names.items c.in_ok-diagnosis.diagnosis.plan.journal.items
    c.in_ok-diagnosis.diagnosis.plan.sequence.items)
    (sym (c.in_ok-diagnosis.ensures.leaves tells).same) (c.in_ok-diagnosis.ensures.plan tells)

pub returns-clause-leaves : goal.returns-clause-leaves
returns-clause-leaves g c = λ tells.
    subst (λ (world : World). LeavesDirectory (g.H.Host.world c.args.from.now) world) (sym (c.fill_target.ensures.looks tells))
    (c.in_ok-diagnosis.ensures.leaves tells)

pub returns-clause-files : goal.returns-clause-files
returns-clause-files g c = λ tells told.
    subst (λ (files : Files). ChangesFiles (IsSalvaging files (g.G.Host.world c.args.to.now).now.directory) (g.G.Host.world c.args.to.now)
    (g.G.Host.world c.fill_target.new.to))
    (c.in_ok-diagnosis.ensures.leaves tells).same (c.fill_target.ensures.files tells told)

pub returns-clause-salvaged : goal.returns-clause-salvaged
returns-clause-salvaged g c = λ tells told.
    subst (λ (files : Files). OnOk c.fill_target.result
    (HasSalvage files (g.G.Host.world c.args.to.now).now.directory (g.G.Host.world c.fill_target.new.to).now.directory))
    (c.in_ok-diagnosis.ensures.leaves tells).same (c.fill_target.ensures.salvaged tells told)
