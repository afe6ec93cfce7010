use Rattle.std.proofs.Common.{ltb, rules}
use Rattle.std.proofs.lemmas.List.Sorted.{IsPartitionPoint-from_clause, IsPartitionedBy-ltb}
use Rattle.spool_model.specs.declared.row.Row.{Row}
use Rattle.spool_store.specs.Rows.{row_entry}
use Rattle.spool_store.proofs.Edits.{test_from}
use Rattle.spool_store.proofs.Places.{place_by_number, rises_by_number}
use Rattle.spool_store.proofs.sorted.row_place.Goals as goal

pub returns-clause-place : goal.returns-clause-place
returns-clause-place c =
    let parted = IsPartitionedBy-ltb (λ (row : Row). row.number) c.args.rows.now c.args.number
    (rises_by_number row_entry c.args.rows.now (test_from _ c.requires)) in
    place_by_number row_entry c.args.rows.now c.args.number _
    (IsPartitionPoint-from_clause (λ (row : Row). ltb row.number c.args.number) _ _ c.partition_point.ensures.partitioned parted
    (λ a r q k. search rules))
