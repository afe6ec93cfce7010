use Rattle.std.proofs.Common.{◌≡◌, None, sym, ap, ◌∙◌, refl, map}
use Rattle.spool_store.specs.Listed.{entry_under}
use Rattle.spool_store.specs.Rows.{decided_entry}
use Rattle.spool_store.proofs.Edits.{test_from}
use Rattle.spool_store.proofs.Places.{found_at, if_none, none_at, not_found, other_at}
use Rattle.at_stat.proofs.search.fate_of_number.Goals as goal

pub returns-in_err-done-clause-absent : goal.returns-in_err-done-clause-absent
returns-in_err-done-clause-absent c =
    if_none _ (entry_under (map decided_entry c.args.decided.now) c.args.number ≡ None)
    (not_found _ (none_at decided_entry c.args.decided.now _ _ c.place_of_decided.result c.args.number refl refl (test_from _ c.requires)
    c.place_of_decided.ensures.place c.in_err-done.ensures.lookup.3))

pub returns-then-done-number-clause-found : goal.returns-then-done-number-clause-found
returns-then-done-number-clause-found c =
    let done = c.in_ok-done.done.now in
    ap (entry_under (map decided_entry c.args.decided.now)) (sym c.if-done-number.true)
    ∙ found_at decided_entry c.args.decided.now _ c.place_of_decided.result done refl (test_from _ c.requires) c.in_ok-done.ensures.lookup.3

pub returns-else-done-number-clause-absent : goal.returns-else-done-number-clause-absent
returns-else-done-number-clause-absent c =
    not_found _ (other_at decided_entry c.args.decided.now _ _ c.place_of_decided.result c.args.number c.in_ok-done.done.now refl refl
    (test_from _ c.requires) c.place_of_decided.ensures.place c.in_ok-done.ensures.lookup.3
    c.if-done-number.false)
