use Rattle.std.proofs.Common.{List, ℕ, arith, subst}
use Rattle.std.specs.Prelude.{◌≡◌, IfOk}
use Rattle.spool_store.proofs.SurplusLemmas.{surplus_listed}
use Rattle.spool_store.proofs.store.Store.surplus.Goals as goal

pub returns : goal.returns
returns c =
    subst (λ (l : List ℕ). IfOk c.numbers_of_decided.result (λ numbers. numbers.items ≡ l))
    (surplus_listed c.args.self.now.table c.decided-decided.result.now c.saturating_sub-count.result c.decided-decided.ensures
    (omega arith)) c.numbers_of_decided.ensures
