use Rattle.std.proofs.Common.{rules}
use Rattle.std.proofs.lemmas.List.Sorted.{IsNonDecreasingBy-from_sort_by_key}
use Rattle.daemon_turn.specs.declared.kid.Kid.{Kid}
use Rattle.step_runs.proofs.ApartLemmas.{sorted_rise}
use Rattle.daemon_turn.proofs.kids.sort_kids.Goals as goal

pub returns-clause-ordered : goal.returns-clause-ordered
returns-clause-ordered c =
    sorted_rise (λ (kid : Kid). kid.number) c.args.kids.now.items c.sort_unstable_by_key.new.self.items
    c.sort_unstable_by_key.ensures.permutation c.requires
    (IsNonDecreasingBy-from_sort_by_key (λ (kid : Kid). kid.number) _ c.sort_unstable_by_key.ensures.sorted (λ a r q k. search rules))
