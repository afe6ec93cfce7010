use Rattle.std.proofs.Common.{map, refl, sym, ap, subst, ◌∙◌, w64}
use Rattle.std.proofs.lemmas.Int.{to_z-of_z}
use Rattle.std.specs.Prelude.{Some, None, IsSome, if◌then◌else◌}
use Rattle.spool_model.specs.declared.entry.Entry.TheVariants.{Live}
use Rattle.spool_model.specs.declared.state.State.TheVariants.{Pending, Running}
use Rattle.spool_model.specs.JobTable.{JobTable, is_batch_queue, table_of}
use Rattle.spool_model.specs.Steps.{is_batch_entry, with_state}
use Rattle.spool_store.specs.Listed.{IsEdited, row_job}
use Rattle.spool_store.specs.Rows.{decided_entry, row_entry}
use Rattle.spool_store.proofs.Listing.{is_drawn, live_has_row, live_is_undecided, row_is_live, still_listed, table_put, unedited}
use Rattle.spool_store.proofs.LinedLemmas.{lines_started, lines_with}
use Rattle.spool_store.proofs.jobs.Jobs.start.Goals as goal

pub start_row-row-requires-clause-present : goal.start_row-row-requires-clause-present
start_row-row-requires-clause-present c =
    subst IsSome (sym (live_has_row c.self.inside.last c.self.inside.rows.items c.self.inside.decided.items c.self.inside.last_batch
    c.args.self.now c.self.view_is c.args.number c.requires.0 Pending c.requires.1)) refl

pub take-requires : goal.take-requires
take-requires c =
    lines_with c.self.inside.rows.items _ _ c.start_row-row.result c.self.inside.lines c.start_row-row.ensures.put c.self.invariant.lined

pub invariant_of-self : goal.invariant_of-self
invariant_of-self c =
    record {
      listed = still_listed (map row_entry c.self.inside.rows.items) (map decided_entry c.self.inside.decided.items) _ _ c.args.number
          (Some (Live (row_job c.start_row-row.result) (Running c.args.second)))
          None (subst (λ second. IsEdited (map row_entry c.self.inside.rows.items) (map row_entry c.start_row-row.new.rows.items)
          c.args.number (Some (Live (row_job c.start_row-row.result) (Running second)))) (to_z-of_z w64 c.args.second c.ranges.second)
          c.start_row-row.ensures.started)
          (unedited _ c.args.number c.self.invariant.listed.decided_rise
          (live_is_undecided c.self.inside.last c.self.inside.rows.items c.self.inside.decided.items c.self.inside.last_batch
          c.args.self.now c.self.view_is c.self.invariant.listed c.args.number c.requires.0 Pending c.requires.1))
          c.self.inside.last c.self.invariant.listed (λ some. refl)
          (is_drawn c.self.inside.last c.self.inside.rows.items c.self.inside.decided.items c.self.inside.last_batch c.args.self.now
          c.self.view_is c.self.invariant.listed c.args.number (subst IsSome (sym c.requires.1) refl));
      lined = lines_started c.self.inside.rows.items _ c.start_row-row.result _ c.self.inside.lines _ c.start_row-row.ensures.put
          c.take.ensures c.self.invariant.lined;
    }

pub returns : goal.returns
returns c =
    let row = c.start_row-row.result in
    table_put c.self.inside.last c.self.inside.rows.items c.self.inside.decided.items c.self.inside.last_batch c.args.self.now
    c.self.view_is _ c.self.inside.decided.items c.args.number (Some (Live (row_job row) (Running c.args.second))) None
    (Live (row_job row) (Running c.args.second))
    (subst (λ second. IsEdited (map row_entry c.self.inside.rows.items) (map row_entry c.start_row-row.new.rows.items)
    c.args.number (Some (Live (row_job c.start_row-row.result) (Running second)))) (to_z-of_z w64 c.args.second c.ranges.second)
    c.start_row-row.ensures.started)
    (unedited _ c.args.number c.self.invariant.listed.decided_rise
    (live_is_undecided c.self.inside.last c.self.inside.rows.items c.self.inside.decided.items c.self.inside.last_batch c.args.self.now
    c.self.view_is c.self.invariant.listed c.args.number c.requires.0 Pending c.requires.1))
    refl _ (if is_batch_queue row.queue then Some c.args.second else c.args.self.now.last_batch)
    (c.last_batch_after-self-inside.ensures
    ∙ ap (λ second. if is_batch_queue row.queue then Some second else c.self.inside.last_batch)
    (to_z-of_z w64 c.args.second c.ranges.second)
    ∙ ap (λ (at : JobTable). if is_batch_queue row.queue then Some c.args.second else at.last_batch) c.self.view_is)
    ∙ ap (λ held. table_of c.args.self.now.last (with_state c.args.number (Running c.args.second) held c.args.self.now.entries)
    (if is_batch_entry held then Some c.args.second else c.args.self.now.last_batch))
    (sym (row_is_live c.self.inside.last c.self.inside.rows.items c.self.inside.decided.items c.self.inside.last_batch c.args.self.now
    c.self.view_is c.args.number (row_entry row).1 c.start_row-row.ensures.was))
