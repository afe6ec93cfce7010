use Rattle.std.proofs.Common.{rules}
use Rattle.std.proofs.lemmas.List.Sorted.{answers_always}
use Rattle.queue_rules.specs.Dues.{due_place}
use Rattle.queue_rules.proofs.DueOrderLemmas.{sorted_in_line}
use Rattle.queue_rules.proofs.line.DueLine.sorted.Goals as goal

pub invariant_of-result : goal.invariant_of-result
invariant_of-result c =
    sorted_in_line _ (c.sort_unstable_by_key.ensures.sorted due_place (answers_always _ _ _ (λ f a r g h. search rules)))

pub returns-clause-in_line : goal.returns-clause-in_line
returns-clause-in_line c = invariant_of-result c
