use Rattle.std.proofs.Common.{◌≤◌, ap, ◌∙◌, length, map, subst}
use Rattle.spool_model.specs.declared.entry.Entry.TheVariants.{Done}
use Rattle.std.specs.List.Sorted.{IsPartitionPoint}
use Rattle.spool_store.specs.Rows.{decided_entry}
use Rattle.spool_store.proofs.Edits.{IsBefore, IsFrom, edited_put, insert_is_put}
use Rattle.spool_store.proofs.sorted.insert_decided.Goals as goal

pub returns-clause-ok : goal.returns-clause-ok
returns-clause-ok c =
    let point : IsPartitionPoint (IsBefore decided_entry c.args.done.number) (IsFrom decided_entry c.args.done.number)
    c.args.decided.now.items c.decided_place-place.result =
    subst (λ list. IsPartitionPoint (IsBefore decided_entry c.args.done.number) (IsFrom decided_entry c.args.done.number) list
    c.decided_place-place.result) c.deref.ensures.value c.decided_place-place.ensures.place in
    let inside : c.decided_place-place.result ≤ length c.args.decided.now.items =
    subst (λ list. c.decided_place-place.result ≤ length list) c.deref.ensures.value c.decided_place-place.ensures.bound in
    edited_put _ _ c.args.done.number (Done c.args.done.fate) c.requires.order
    (ap (map decided_entry) c.in_ok-insert.ensures.items ∙ insert_is_put decided_entry c.args.decided.now.items c.decided_place-place.result
    c.args.done point.0 point.1 inside c.requires.absent)
