use Rattle.std.proofs.Common.{◌≡◌, None, sym, ap, ◌∙◌, refl, map}
use Rattle.spool_store.specs.Listed.{entry_under}
use Rattle.spool_store.specs.Rows.{row_entry}
use Rattle.spool_store.proofs.Edits.{test_from}
use Rattle.spool_store.proofs.Places.{found_at, if_none, none_at, not_found, other_at}
use Rattle.spool_store.proofs.sorted.row_of_number.Goals as goal

pub returns-in_err-row-clause-absent : goal.returns-in_err-row-clause-absent
returns-in_err-row-clause-absent c =
    if_none _ (entry_under (map row_entry c.args.rows.now) c.args.number ≡ None)
    (not_found _ (none_at row_entry c.args.rows.now _ _ c.row_place.result c.args.number refl refl (test_from _ c.requires)
    c.row_place.ensures.place c.in_err-row.ensures.lookup.3))

pub returns-then-row-number-clause-found : goal.returns-then-row-number-clause-found
returns-then-row-number-clause-found c =
    let row = c.in_ok-row.row.now in
    ap (entry_under (map row_entry c.args.rows.now)) (sym c.if-row-number.true)
    ∙ found_at row_entry c.args.rows.now _ c.row_place.result row refl (test_from _ c.requires) c.in_ok-row.ensures.lookup.3

pub returns-else-row-number-clause-absent : goal.returns-else-row-number-clause-absent
returns-else-row-number-clause-absent c =
    not_found _ (other_at row_entry c.args.rows.now _ _ c.row_place.result c.args.number c.in_ok-row.row.now refl refl
    (test_from _ c.requires) c.row_place.ensures.place c.in_ok-row.ensures.lookup.3
    c.if-row-number.false)
