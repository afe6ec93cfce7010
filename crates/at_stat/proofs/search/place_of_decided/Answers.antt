use Rattle.std.proofs.Common.{ltb, rules}
use Rattle.std.proofs.lemmas.List.Sorted.{IsPartitionPoint-from_clause, IsPartitionedBy-ltb}
use Rattle.spool_model.specs.declared.decided.Decided.{Decided}
use Rattle.spool_store.specs.Rows.{decided_entry}
use Rattle.spool_store.proofs.Edits.{test_from}
use Rattle.spool_store.proofs.Places.{place_by_number, rises_by_number}
use Rattle.at_stat.proofs.search.place_of_decided.Goals as goal

pub returns-clause-place : goal.returns-clause-place
returns-clause-place c =
    let parted = IsPartitionedBy-ltb (λ (done : Decided). done.number) c.args.decided.now c.args.number
    (rises_by_number decided_entry c.args.decided.now (test_from _ c.requires)) in
    place_by_number decided_entry c.args.decided.now c.args.number _
    (IsPartitionPoint-from_clause (λ (done : Decided). ltb done.number c.args.number) _ _ c.partition_point.ensures.partitioned parted
    (λ a r q k. search rules))
