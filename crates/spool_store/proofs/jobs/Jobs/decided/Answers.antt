use Rattle.std.proofs.Common.{sym, subst}
use Rattle.spool_store.specs.Listed.{ListsDecided}
use Rattle.spool_store.proofs.Listing.{lists_decided}
use Rattle.spool_store.proofs.jobs.Jobs.decided.Goals as goal

pub returns : goal.returns
returns c = subst (ListsDecided c.args.self.now) (sym c.as_slice.ensures.value) (lists_decided c.self.inside.last c.self.inside.rows.items
    c.self.inside.decided.items c.self.inside.last_batch c.args.self.now c.self.view_is c.self.invariant.listed)
