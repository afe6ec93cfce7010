use Rattle.std.proofs.Common.{map, refl, sym, ap, subst, ◌∙◌}
use Rattle.std.specs.Prelude.{Some, None, IsSome}
use Rattle.spool_model.specs.declared.entry.Entry.TheVariants.{Done}
use Rattle.spool_model.specs.JobTable.{JobTable}
use Rattle.spool_store.specs.Rows.{decided_entry, row_entry}
use Rattle.spool_store.proofs.Listing.{is_drawn, live_has_row, live_is_undecided, no_entry, still_listed, table_put}
use Rattle.spool_store.proofs.LinedLemmas.{lines_less, lines_with}
use Rattle.spool_store.proofs.StoredSteps.{decides_by}
use Rattle.spool_store.proofs.jobs.Jobs.decide.Goals as goal

pub insert_decided-requires-clause-absent : goal.insert_decided-requires-clause-absent
insert_decided-requires-clause-absent c = live_is_undecided c.self.inside.last c.self.inside.rows.items c.self.inside.decided.items
    c.self.inside.last_batch c.args.self.now c.self.view_is c.self.invariant.listed c.args.number c.requires.0 c.requires.1 c.requires.2

pub remove_row-row-requires-clause-present : goal.remove_row-row-requires-clause-present
remove_row-row-requires-clause-present c =
    subst IsSome (sym (live_has_row c.self.inside.last c.self.inside.rows.items c.self.inside.decided.items c.self.inside.last_batch
    c.args.self.now c.self.view_is c.args.number c.requires.0 c.requires.1 c.requires.2)) refl

pub take-requires : goal.take-requires
take-requires c = lines_with c.self.inside.rows.items _ _ c.remove_row-row.result c.self.inside.lines
    c.remove_row-row.ensures.taken c.self.invariant.lined

pub invariant_of-self-2 : goal.invariant_of-self-2
invariant_of-self-2 c =
    record {
      listed = still_listed (map row_entry c.self.inside.rows.items) (map decided_entry c.self.inside.decided.items) _ _ c.args.number None
          (Some (Done c.args.fate)) c.remove_row-row.ensures.edited c.in_ok-insert_decided.ensures.ok
          c.self.inside.last c.self.invariant.listed (λ some. absurd (no_entry some))
          (is_drawn c.self.inside.last c.self.inside.rows.items c.self.inside.decided.items c.self.inside.last_batch c.args.self.now
          c.self.view_is c.self.invariant.listed c.args.number (subst IsSome (sym c.requires.2) refl));
      lined = lines_less c.self.inside.rows.items _ c.remove_row-row.result c.self.inside.lines _ c.remove_row-row.ensures.taken
          c.take.ensures c.self.invariant.lined;
    }

pub returns-clause-decided : goal.returns-clause-decided
returns-clause-decided c =
    table_put c.self.inside.last c.self.inside.rows.items c.self.inside.decided.items c.self.inside.last_batch c.args.self.now
    c.self.view_is _ _ c.args.number None (Some (Done c.args.fate)) (Done c.args.fate) c.remove_row-row.ensures.edited
    c.in_ok-insert_decided.ensures.ok refl
    _ _ (ap (λ (at : JobTable). at.last_batch) c.self.view_is)
    ∙ sym (decides_by c.args.self.now c.args.number c.args.fate).after
