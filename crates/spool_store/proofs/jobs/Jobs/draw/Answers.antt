use Rattle.std.proofs.Common.{◌+◌, ap}
use Rattle.spool_model.specs.JobTable.{JobTable, table_of}
use Rattle.spool_store.proofs.Listing.{still_drawn}
use Rattle.spool_store.proofs.jobs.Jobs.draw.Goals as goal

pub invariant_of-self : goal.invariant_of-self
invariant_of-self c = record { listed = still_drawn c.self.inside.last _ _ c.self.invariant.listed; lined = c.self.invariant.lined }

pub returns : goal.returns
returns c = ap (λ (table : JobTable). table_of (table.last + 1) table.entries table.last_batch) c.self.view_is
