use Rattle.std.proofs.Common.{◌∙◌, ◌++◌, ap}
use Rattle.host_calls.specs.World.{reading}
use Rattle.spool_faults.specs.Faults.{faults_of}
use Rattle.spool_faults.proofs.Settling.{looked_leaves, settling_leaves}
use Rattle.spool_faults.proofs.list_faults.faults.Goals as goal

pub returns-in_err-settle-clause-leaves : goal.returns-in_err-settle-clause-leaves
returns-in_err-settle-clause-leaves g c = λ tells.
    settling_leaves (g.H.Host.world c.args.host.now) (g.H.Host.world c.settle.new.self) c.settle.result (c.settle.ensures.files tells)

pub returns-in_err-scan_spool-clause-leaves : goal.returns-in_err-scan_spool-clause-leaves
returns-in_err-scan_spool-clause-leaves g c = λ tells.
    looked_leaves (g.H.Host.world c.args.host.now) (g.H.Host.world c.settle.new.self) (g.H.Host.world c.scan_spool.new.host) c.settle.result
    (c.settle.ensures.files tells) (c.scan_spool.ensures.looks tells)

pub returns-clause-leaves : goal.returns-clause-leaves
returns-clause-leaves g c = λ tells.
    looked_leaves (g.H.Host.world c.args.host.now) (g.H.Host.world c.settle.new.self) (g.H.Host.world c.scan_spool.new.host) c.settle.result
    (c.settle.ensures.files tells) (c.scan_spool.ensures.looks tells)

pub returns-clause-listed : goal.returns-clause-listed
returns-clause-listed g c = λ tells.
    c.in_ok-scan_spool.ensures.faults tells
    ∙ ap (λ list. list ++ faults_of (reading (g.H.Host.world c.settle.new.self))) c.new-faults.ensures.items
    ∙ ap faults_of (settling_leaves (g.H.Host.world c.args.host.now) (g.H.Host.world c.settle.new.self) c.settle.result
    (c.settle.ensures.files tells)).same
