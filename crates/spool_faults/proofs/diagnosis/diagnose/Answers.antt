use Rattle.std.proofs.Common.{◌∙◌, ap, subst}
use Rattle.host_calls.specs.World.{reading}
use Rattle.spool_faults.specs.Faults.{faults_of}
use Rattle.spool_faults.specs.Plan.{IsPlanOf}
use Rattle.spool_faults.proofs.Settling.{faults_after, looked_leaves, settling_leaves}
use Rattle.spool_faults.proofs.diagnosis.diagnose.Goals as goal

pub returns-in_err-settle-clause-leaves : goal.returns-in_err-settle-clause-leaves
returns-in_err-settle-clause-leaves g c = λ tells.
    settling_leaves (g.H.Host.world c.args.host.now) (g.H.Host.world c.settle.new.self) c.settle.result (c.settle.ensures.files tells)

pub returns-in_err-scan-clause-leaves : goal.returns-in_err-scan-clause-leaves
returns-in_err-scan-clause-leaves g c = λ tells.
    looked_leaves (g.H.Host.world c.args.host.now) (g.H.Host.world c.settle.new.self) (g.H.Host.world c.scan_spool.new.host) c.settle.result
    (c.settle.ensures.files tells) (c.scan_spool.ensures.looks tells)

pub returns-in_err-plan-clause-leaves : goal.returns-in_err-plan-clause-leaves
returns-in_err-plan-clause-leaves g c = λ tells.
    looked_leaves (g.H.Host.world c.args.host.now) (g.H.Host.world c.settle.new.self) (g.H.Host.world c.scan_spool.new.host) c.settle.result
    (c.settle.ensures.files tells) (c.scan_spool.ensures.looks tells)

pub returns-clause-leaves : goal.returns-clause-leaves
returns-clause-leaves g c = λ tells.
    looked_leaves (g.H.Host.world c.args.host.now) (g.H.Host.world c.settle.new.self) (g.H.Host.world c.scan_spool.new.host) c.settle.result
    (c.settle.ensures.files tells) (c.scan_spool.ensures.looks tells)

pub returns-clause-faults : goal.returns-clause-faults
returns-clause-faults g c = λ tells.
    faults_after (g.H.Host.world c.settle.new.self) _ _ (c.in_ok-scan.ensures.faults tells) c.new-faults.ensures.items
    ∙ ap faults_of (settling_leaves (g.H.Host.world c.args.host.now) (g.H.Host.world c.settle.new.self) c.settle.result
    (c.settle.ensures.files tells)).same

pub returns-clause-plan : goal.returns-clause-plan
returns-clause-plan g c = λ tells.
    subst (λ files. IsPlanOf files c.in_ok-plan.plan.names.items c.in_ok-plan.plan.journal.items c.in_ok-plan.plan.sequence.items)
    (settling_leaves (g.H.Host.world c.args.host.now) (g.H.Host.world c.settle.new.self) c.settle.result
    (c.settle.ensures.files tells)).same
    (c.in_ok-plan.ensures (reading (g.H.Host.world c.settle.new.self)) (c.in_ok-scan.ensures.scan tells)
    (c.as_slice.ensures.value
    ∙ faults_after (g.H.Host.world c.settle.new.self) _ _ (c.in_ok-scan.ensures.faults tells) c.new-faults.ensures.items))
