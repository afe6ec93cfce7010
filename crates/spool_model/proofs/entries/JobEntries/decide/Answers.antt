use Rattle.std.proofs.Common.{subst, refl, IsSome}
use Rattle.spool_model.specs.declared.entry.Entry.TheVariants.{Done}
use Rattle.spool_model.proofs.EntriesLemmas.{from_map-put, held_from_get, none_is_not_some}
use Rattle.spool_model.proofs.entries.JobEntries.decide.Goals as goal
use Rattle.spool_model.proofs.entries.JobEntries.decide.Goals.{in-Some, in_default}

pub returns : goal.returns
returns c = elim c.match-get_mut.branch [
  | in-Some w ↦ rw (w.self-inside-is, ← c.self.view_is) (
      from_map-put c.self.inside.map.entries (c.get_mut.follows.lender w.decide.new.self).entries c.args.number
      w.decide.new.self (Done c.args.fate) w.decide.ensures
      ((c.get_mut.follows.holds w.decide.new.self).3 (subst IsSome w.in-Some.ensures.value refl)).0)
  | in_default w ↦ absurd (none_is_not_some _ w.in_default.ensures.value
      (held_from_get c.self.inside.map.entries c.args.self.now c.args.number c.self.view_is c.requires))
]
