use Rattle.std.proofs.Common.{map, refl, sym, subst}
use Rattle.std.specs.Prelude.{None, IsSome}
use Rattle.spool_store.specs.Rows.{decided_entry, row_entry}
use Rattle.spool_store.proofs.Listing.{done_is_decided, is_drawn, still_listed, table_taken, unedited}
use Rattle.spool_store.proofs.jobs.Jobs.forget.Goals as goal

pub remove_decided-requires-clause-present : goal.remove_decided-requires-clause-present
remove_decided-requires-clause-present c = subst IsSome (sym (done_is_decided c.self.inside.last c.self.inside.rows.items
    c.self.inside.decided.items c.self.inside.last_batch c.args.self.now c.self.view_is c.args.number c.requires.0 c.requires.1).1) refl

pub invariant_of-self : goal.invariant_of-self
invariant_of-self c =
    record {
      listed = still_listed (map row_entry c.self.inside.rows.items) (map decided_entry c.self.inside.decided.items) _ _ c.args.number None
          None (unedited _ c.args.number c.self.invariant.listed.live_rise (done_is_decided c.self.inside.last c.self.inside.rows.items
          c.self.inside.decided.items c.self.inside.last_batch c.args.self.now c.self.view_is c.args.number c.requires.0 c.requires.1).0)
          c.remove_decided.ensures
          c.self.inside.last c.self.invariant.listed (λ some. refl)
          (is_drawn c.self.inside.last c.self.inside.rows.items c.self.inside.decided.items c.self.inside.last_batch c.args.self.now
          c.self.view_is c.self.invariant.listed c.args.number (subst IsSome (sym c.requires.1) refl));
      lined = c.self.invariant.lined;
    }

pub returns : goal.returns
returns c =
    table_taken c.self.inside.last c.self.inside.rows.items c.self.inside.decided.items c.self.inside.last_batch c.args.self.now
    c.self.view_is c.self.inside.rows.items _ c.args.number None None
    (unedited _ c.args.number c.self.invariant.listed.live_rise (done_is_decided c.self.inside.last c.self.inside.rows.items
    c.self.inside.decided.items c.self.inside.last_batch c.args.self.now c.self.view_is c.args.number c.requires.0 c.requires.1).0)
    c.remove_decided.ensures refl
