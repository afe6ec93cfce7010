use Rattle.std.proofs.Common.{sym, ap, subst, ◌∙◌, refl, map}
use Rattle.std.specs.Prelude.{IsSome}
use Rattle.spool_store.specs.Listed.{IsLive, entry_under}
use Rattle.spool_store.specs.Rows.{row_entry}
use Rattle.spool_store.proofs.Edits.{test_from}
use Rattle.spool_store.proofs.Listing.{live_has_row, row_is_live}
use Rattle.spool_store.proofs.Places.{found_at, if_none, none_at, other_at}
use Rattle.spool_store.proofs.jobs.Jobs.row.Goals as goal

pub returns-in_err-row-clause-absent : goal.returns-in_err-row-clause-absent
returns-in_err-row-clause-absent c = if_none _ (IsLive c.args.self.now c.args.number → ⊥) (λ live.
    none_at row_entry c.self.inside.rows.items _ _ c.row_place.result c.args.number c.deref.ensures.value c.deref-2.ensures.value
    (test_from _ c.self.invariant.listed.live_rise) c.row_place.ensures.place c.in_err-row.ensures.lookup.3
    (subst IsSome (sym (live_has_row c.self.inside.last c.self.inside.rows.items c.self.inside.decided.items c.self.inside.last_batch
    c.args.self.now c.self.view_is c.args.number live.0 live.1 live.2)) refl))

pub returns-then-row-number-clause-found : goal.returns-then-row-number-clause-found
returns-then-row-number-clause-found c =
    let row = c.in_ok-row.row.now in
    row_is_live c.self.inside.last c.self.inside.rows.items c.self.inside.decided.items c.self.inside.last_batch c.args.self.now
    c.self.view_is c.args.number (row_entry row).1
    (ap (entry_under (map row_entry c.self.inside.rows.items)) (sym c.if-row-number.true)
    ∙ found_at row_entry c.self.inside.rows.items _ c.row_place.result row c.deref.ensures.value
    (test_from _ c.self.invariant.listed.live_rise) c.in_ok-row.ensures.lookup.3)

pub returns-else-row-number-clause-absent : goal.returns-else-row-number-clause-absent
returns-else-row-number-clause-absent c live =
    let row = c.in_ok-row.row.now in
    other_at row_entry c.self.inside.rows.items _ _ c.row_place.result c.args.number row c.deref.ensures.value c.deref-2.ensures.value
    (test_from _ c.self.invariant.listed.live_rise) c.row_place.ensures.place c.in_ok-row.ensures.lookup.3
    c.if-row-number.false
    (subst IsSome (sym (live_has_row c.self.inside.last c.self.inside.rows.items c.self.inside.decided.items c.self.inside.last_batch
    c.args.self.now c.self.view_is c.args.number live.0 live.1 live.2)) refl)
