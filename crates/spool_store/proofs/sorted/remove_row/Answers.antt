use Rattle.std.proofs.Common.{ap, ◌∙◌, map, subst, arith}
use Rattle.std.specs.List.Sorted.{IsPartitionPoint}
use Rattle.spool_store.specs.Rows.{row_entry}
use Rattle.spool_store.proofs.Edits.{IsBefore, IsFrom, edited_taken, remove_is_where, test_from}
use Rattle.spool_store.proofs.Places.{is_at_place}
use Rattle.spool_store.proofs.LinedLemmas.{row_taken}
use Rattle.spool_store.proofs.sorted.remove_row.Goals as goal

pub remove-requires : goal.remove-requires
remove-requires c =
    let there = is_at_place row_entry c.args.rows.now.items _ c.row_place-place.result c.args.number c.deref.ensures.value
    (test_from _ c.requires.order) c.row_place-place.ensures.place c.requires.present in
    omega (arith, there.0, c.args.rows.now.ok.0)

pub returns-clause-edited : goal.returns-clause-edited
returns-clause-edited c =
    let there = is_at_place row_entry c.args.rows.now.items _ c.row_place-place.result c.args.number c.deref.ensures.value
    (test_from _ c.requires.order) c.row_place-place.ensures.place c.requires.present in
    edited_taken _ _ c.args.number c.requires.order
    (ap (map row_entry) c.remove.ensures.items
    ∙ remove_is_where row_entry c.args.rows.now.items c.row_place-place.result c.args.number (test_from _ c.requires.order)
    (subst (λ list. IsPartitionPoint (IsBefore row_entry c.args.number) (IsFrom row_entry c.args.number) list c.row_place-place.result)
    c.deref.ensures.value c.row_place-place.ensures.place).0 there.0 there.2)

pub returns-clause-taken : goal.returns-clause-taken
returns-clause-taken c =
    let there = is_at_place row_entry c.args.rows.now.items _ c.row_place-place.result c.args.number c.deref.ensures.value
    (test_from _ c.requires.order) c.row_place-place.ensures.place c.requires.present in
    row_taken c.args.rows.now.items _ c.row_place-place.result _ there.0 c.remove.ensures.value c.remove.ensures.items
