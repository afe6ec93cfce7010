use Rattle.std.proofs.Common.{rules, sym, subst}
use Rattle.std.proofs.lemmas.List.Sorted.{IsPartitionPoint-from_clause}
use Rattle.queue_rules.specs.declared.due.Due.{Due}
use Rattle.queue_rules.specs.Dues.{AreInLine, is_due_at}
use Rattle.queue_rules.proofs.DueOrderLemmas.{prefix_is_due, parted_due}
use Rattle.queue_rules.proofs.line.DueLine.due.Goals as goal

pub returns : goal.returns
returns c =
    prefix_is_due c.self.inside.due_jobs.items c.deref.result.now _ _ c.args.now c.partition_point-count.result c.deref.ensures.value
    c.deref-2.ensures.value c.self.view_is c.partition_point-count.ensures.bound
    (IsPartitionPoint-from_clause (λ (due : Due). is_due_at c.args.now due) _ _ c.partition_point-count.ensures.partitioned
    (parted_due c.deref.result.now c.args.now (subst AreInLine (sym c.deref.ensures.value) c.self.invariant)) (λ a r q k. search rules))
