use Rattle.spool_faults.proofs.Settling.{settling_leaves}
use Rattle.spool_check.proofs.BareDirectories.{durable_of}
use Rattle.spool_check.proofs.target.settle.Goals as goal

pub returns-in-Ok-clause-leaves : goal.returns-in-Ok-clause-leaves
returns-in-Ok-clause-leaves g c = λ tells.
    settling_leaves (g.G.Host.world c.args.to.now) (g.G.Host.world c.settle.new.self) c.settle.result (c.settle.ensures.files tells)

pub returns-in-Ok-clause-settled : goal.returns-in-Ok-clause-settled
returns-in-Ok-clause-settled g c = λ tells.
    durable_of (g.G.Host.world c.args.to.now).now.directory (g.G.Host.world c.settle.new.self).now.directory
    (c.in-Ok.ensures.files tells).outcome

pub returns-in-Err-clause-leaves : goal.returns-in-Err-clause-leaves
returns-in-Err-clause-leaves g c = λ tells.
    settling_leaves (g.G.Host.world c.args.to.now) (g.G.Host.world c.settle.new.self) c.settle.result (c.settle.ensures.files tells)
