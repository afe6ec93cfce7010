use Rattle.spool_model.proofs.EntriesLemmas.{from_map-insert}
use Rattle.spool_model.proofs.entries.JobEntries.insert.Goals as goal

pub returns-clause-ok : goal.returns-clause-ok
returns-clause-ok c = rw (← c.self.view_is)
    (from_map-insert c.self.inside.map.entries c.insert.new.self.entries c.args.number c.args.entry (c.in_ok-insert.ensures.updates.0))
