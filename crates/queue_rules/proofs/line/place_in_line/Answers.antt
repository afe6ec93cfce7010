use Rattle.std.proofs.Common.{rules}
use Rattle.std.proofs.lemmas.List.Sorted.{IsPartitionPoint-from_clause}
use Rattle.queue_rules.specs.declared.due.Due.{Due}
use Rattle.queue_rules.specs.Dues.{is_due_before}
use Rattle.queue_rules.proofs.DueOrderLemmas.{parted_before}
use Rattle.queue_rules.proofs.line.place_in_line.Goals as goal

pub returns-clause-place : goal.returns-clause-place
returns-clause-place c =
    IsPartitionPoint-from_clause (λ (other : Due). is_due_before other c.args.due) _ _ c.partition_point.ensures.partitioned
    (parted_before c.args.due_jobs.now c.args.due c.requires) (λ a r q k. search rules)
