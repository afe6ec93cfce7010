use Rattle.std.proofs.Common.{ap, ◌∙◌, map, subst, arith}
use Rattle.std.specs.List.Sorted.{IsPartitionPoint}
use Rattle.spool_store.specs.Rows.{decided_entry}
use Rattle.spool_store.proofs.Edits.{IsBefore, IsFrom, edited_taken, remove_is_where, test_from}
use Rattle.spool_store.proofs.Places.{is_at_place}
use Rattle.spool_store.proofs.sorted.remove_decided.Goals as goal

pub remove-requires : goal.remove-requires
remove-requires c =
    let there = is_at_place decided_entry c.args.decided.now.items _ c.decided_place-place.result c.args.number c.deref.ensures.value
    (test_from _ c.requires.order) c.decided_place-place.ensures.place c.requires.present in
    omega (arith, there.0, c.args.decided.now.ok.0)

pub returns : goal.returns
returns c =
    let there = is_at_place decided_entry c.args.decided.now.items _ c.decided_place-place.result c.args.number c.deref.ensures.value
    (test_from _ c.requires.order) c.decided_place-place.ensures.place c.requires.present in
    edited_taken _ _ c.args.number c.requires.order
    (ap (map decided_entry) c.remove.ensures.items
    ∙ remove_is_where decided_entry c.args.decided.now.items c.decided_place-place.result c.args.number (test_from _ c.requires.order)
    (subst (λ list. IsPartitionPoint (IsBefore decided_entry c.args.number) (IsFrom decided_entry c.args.number) list
    c.decided_place-place.result) c.deref.ensures.value c.decided_place-place.ensures.place).0 there.0 there.2)
