use Rattle.spool_model.proofs.EntriesLemmas.{from_map-remove}
use Rattle.spool_model.proofs.entries.JobEntries.remove.Goals as goal

pub returns : goal.returns
returns c =
    rw (← c.self.view_is) (from_map-remove c.self.inside.map.entries c.remove.new.self.entries c.args.number (c.remove.ensures.updates.0))
