use Rattle.std.proofs.Common.{List, ◌++◌, ap, sym, ◌∙◌, ℕ}
use Rattle.spool_store.proofs.CountLemmas.{decided_listed}
use Rattle.at_stat.proofs.numbers.all_numbers.Goals as goal

pub returns : goal.returns
returns c = (
  c.in_ok-numbers.numbers.items,
  c.in_ok-numbers.ensures,
  c.in_ok-extend_from_slice.ensures.items
      ∙ ap (λ (done : List ℕ). c.in_ok-numbers.numbers.items ++ done)
      (c.deref.ensures.value ∙ c.in_ok-done.ensures ∙ sym (decided_listed c.args.store.now.table c.decided.result.now c.decided.ensures)),
)
