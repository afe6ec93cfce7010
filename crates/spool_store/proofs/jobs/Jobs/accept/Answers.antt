use Rattle.std.proofs.Common.{List, [], ◌∷◌, ◌++◌, map, refl, ap, ◌∙◌}
use Rattle.std.specs.Prelude.{Some, None}
use Rattle.spool_model.specs.declared.entry.Entry.TheVariants.{Live}
use Rattle.spool_model.specs.declared.state.State.TheVariants.{Pending}
use Rattle.spool_model.specs.JobTable.{JobTable}
use Rattle.spool_store.specs.Listed.{row_job}
use Rattle.spool_store.specs.Rows.{decided_entry, row_entry}
use Rattle.spool_store.proofs.Edits.{edited_put, push_is_put}
use Rattle.spool_store.proofs.Listing.{above_rows, absent_in_both, free_is_drawn, still_listed, table_put, unedited}
use Rattle.spool_model.specs.declared.row.Row.{Row}
use Rattle.spool_store.proofs.LinedLemmas.{lines_pushed}
use Rattle.spool_store.proofs.jobs.Jobs.accept.Goals as goal

pub invariant_of-self-2 : goal.invariant_of-self-2
invariant_of-self-2 c =
    let row = c.args.row in
    let rows = c.self.inside.rows.items in
    record {
      listed = still_listed (map row_entry c.self.inside.rows.items) (map decided_entry c.self.inside.decided.items) _ _ row.number
          (Some (row_entry row).1) None
          (edited_put _ _ row.number (row_entry row).1 c.self.invariant.listed.live_rise
          (ap (map row_entry) (c.push_reserved.ensures.items ∙ ap (λ (items : List Row). items ++ row ∷ []) c.in_ok-reserve.ensures.items)
          ∙ push_is_put row_entry rows row (above_rows c.self.inside.last c.self.inside.rows.items c.self.inside.decided.items
          c.self.inside.last_batch c.args.self.now c.self.view_is c.self.invariant.listed row.number c.requires.free)))
          (unedited _ row.number c.self.invariant.listed.decided_rise (absent_in_both c.self.inside.last c.self.inside.rows.items
          c.self.inside.decided.items c.self.inside.last_batch c.args.self.now c.self.view_is row.number c.requires.free.absent).1)
          c.self.inside.last c.self.invariant.listed (λ some. refl) (free_is_drawn c.self.inside.last c.self.inside.rows.items
          c.self.inside.decided.items c.self.inside.last_batch c.args.self.now c.self.view_is row.number c.requires.free);
      lined = lines_pushed c.self.inside.rows.items _ row c.self.inside.lines _ (c.push_reserved.ensures.items
          ∙ ap (λ (items : List Row). items ++ row ∷ []) c.in_ok-reserve.ensures.items) c.in_ok-add.ensures.added c.self.invariant.lined;
    }

pub returns-clause-taken : goal.returns-clause-taken
returns-clause-taken c =
    let row = c.args.row in
    let rows = c.self.inside.rows.items in
    table_put c.self.inside.last c.self.inside.rows.items c.self.inside.decided.items c.self.inside.last_batch c.args.self.now
    c.self.view_is _ c.self.inside.decided.items row.number (Some (row_entry row).1) None (Live (row_job row) Pending)
    (edited_put _ _ row.number (row_entry row).1 c.self.invariant.listed.live_rise
    (ap (map row_entry) (c.push_reserved.ensures.items ∙ ap (λ (items : List Row). items ++ row ∷ []) c.in_ok-reserve.ensures.items)
    ∙ push_is_put row_entry rows row (above_rows c.self.inside.last c.self.inside.rows.items c.self.inside.decided.items
    c.self.inside.last_batch c.args.self.now c.self.view_is c.self.invariant.listed row.number c.requires.free)))
    (unedited _ row.number c.self.invariant.listed.decided_rise (absent_in_both c.self.inside.last c.self.inside.rows.items
    c.self.inside.decided.items c.self.inside.last_batch c.args.self.now c.self.view_is row.number c.requires.free.absent).1)
    (ap (λ state. Some (Live (row_job row) state)) c.requires.pending)
    _ _ (ap (λ (at : JobTable). at.last_batch) c.self.view_is)
