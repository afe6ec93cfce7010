use Rattle.spool_check.proofs.FillLemmas.{bare_by}
use Rattle.spool_check.proofs.target.open_target.Goals as goal

pub returns-clause-empty : goal.returns-clause-empty
returns-clause-empty g c = λ tells.
    bare_by c.refuse_spool.result (g.G.Host.world c.settle.new.to) (g.G.Host.world c.refuse_spool.new.to)
    (c.refuse_spool.ensures.looks tells) (c.in_ok-settle.ensures.settled tells) (c.refuse_spool.ensures.empty tells)
