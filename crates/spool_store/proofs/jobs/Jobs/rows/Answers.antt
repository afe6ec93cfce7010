use Rattle.std.proofs.Common.{sym, subst}
use Rattle.spool_store.specs.Listed.{ListsLive}
use Rattle.spool_store.proofs.Listing.{lists_live}
use Rattle.spool_store.proofs.jobs.Jobs.rows.Goals as goal

pub returns : goal.returns
returns c = subst (ListsLive c.args.self.now) (sym c.as_slice.ensures.value) (lists_live c.self.inside.last c.self.inside.rows.items
    c.self.inside.decided.items c.self.inside.last_batch c.args.self.now c.self.view_is c.self.invariant.listed)
