use Rattle.std.proofs.Common.{◌≡◌, ap, sym, ◌∙◌, map, set, subst, w64, arith}
use Rattle.std.specs.List.{AllWithin}
use Rattle.std.specs.List.Sorted.{IsPartitionPoint}
use Rattle.std.specs.Prelude.{Some}
use Rattle.std.specs.Ordering.{nat_cmp}
use Rattle.std.specs.FinMap.Entries.{put}
use Rattle.std.proofs.lemmas.Int.{to_z-of_z}
use Rattle.spool_model.specs.declared.entry.Entry.TheVariants.{Live}
use Rattle.spool_model.specs.declared.row.Row.{Row}
use Rattle.spool_model.specs.declared.state.State.TheVariants.{Running}
use Rattle.spool_store.specs.Listed.{row_job}
use Rattle.spool_store.specs.Rows.{row_entry}
use Rattle.spool_store.proofs.Edits.{IsBefore, IsFrom, edited_put, set_is_put, test_from}
use Rattle.spool_store.proofs.Places.{is_at_place}
use Rattle.spool_store.specs.inside.Lined.{running}
use Rattle.spool_store.proofs.LinedLemmas.{row_set}
use Rattle.spool_store.proofs.sorted.start_row.Goals as goal

pub index-row-requires : goal.index-row-requires
index-row-requires c =
    let there = is_at_place row_entry c.args.rows.now.items _ c.row_place-place.result c.args.number c.deref.ensures.value
    (test_from _ c.requires.order) c.row_place-place.ensures.place c.requires.present in
    omega (arith, there.0, c.args.rows.now.ok.0)

pub index_mut-requires : goal.index_mut-requires
index_mut-requires c =
    let there = is_at_place row_entry c.args.rows.now.items _ c.row_place-place.result c.args.number c.deref.ensures.value
    (test_from _ c.requires.order) c.row_place-place.ensures.place c.requires.present in
    omega (arith, there.0, c.args.rows.now.ok.0)

pub returns-clause-was : goal.returns-clause-was
returns-clause-was c =
    let there = is_at_place row_entry c.args.rows.now.items _ c.row_place-place.result c.args.number c.deref.ensures.value
    (test_from _ c.requires.order) c.row_place-place.ensures.place c.requires.present in
    sym (ap (λ (row : Row). Some (row_entry row).1) c.index-row.ensures ∙ there.1 c.index-row.result.now)

pub returns-clause-started : goal.returns-clause-started
returns-clause-started c =
    let rows = c.args.rows.now.items in
    let row = c.index-row.result.now in
    let place = c.row_place-place.result in
    let there = is_at_place row_entry rows _ place c.args.number c.deref.ensures.value (test_from _ c.requires.order)
    c.row_place-place.ensures.place c.requires.present in
    let same : row.number ≡ c.args.number = ap (λ (row : Row). row.number) c.index-row.ensures ∙ there.2 row in
    let before : AllWithin (IsBefore row_entry c.args.number) rows 0 place =
    (subst (λ list. IsPartitionPoint (IsBefore row_entry c.args.number) (IsFrom row_entry c.args.number) list place) c.deref.ensures.value
    c.row_place-place.ensures.place).0 in
    edited_put _ _ c.args.number (Live (row_job row) (Running c.args.second)) c.requires.order
    (ap (λ second. map row_entry (set rows place (running row second))) (to_z-of_z w64 c.args.second c.ranges.second)
    ∙ set_is_put row_entry rows place (running row c.args.second)
    (subst (λ at. AllWithin (IsBefore row_entry at) rows 0 place) (sym same) before) there.0 (λ d. there.2 d ∙ sym same)
    ∙ ap (λ at. put nat_cmp at (Live (row_job row) (Running c.args.second)) (map row_entry rows)) same)

pub returns-clause-put : goal.returns-clause-put
returns-clause-put c =
    let rows = c.args.rows.now.items in
    let row = c.index-row.result.now in
    let place = c.row_place-place.result in
    let there = is_at_place row_entry rows _ place c.args.number c.deref.ensures.value (test_from _ c.requires.order)
    c.row_place-place.ensures.place c.requires.present in
    row_set rows _ place row (running row c.args.second) there.0 c.index-row.ensures
    (ap (λ second. set rows place (running row second)) (to_z-of_z w64 c.args.second c.ranges.second))
