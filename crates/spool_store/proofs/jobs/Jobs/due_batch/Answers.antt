use Rattle.std.proofs.Common.{w64}
use Rattle.std.proofs.lemmas.Int.{to_z-of_z}
use Rattle.spool_store.proofs.Listing.{lists_live}
use Rattle.spool_store.proofs.LinedLemmas.{batch_listed}
use Rattle.spool_store.proofs.jobs.Jobs.due_batch.Goals as goal

pub returns : goal.returns
returns c =
    batch_listed c.args.self.now c.self.inside.rows.items c.self.inside.lines.batch _ c.args.now _
    (lists_live c.self.inside.last c.self.inside.rows.items c.self.inside.decided.items c.self.inside.last_batch c.args.self.now
    c.self.view_is c.self.invariant.listed)
    (to_z-of_z w64 c.args.now c.ranges.now) c.due.ensures c.self.invariant.lined.batch
