use Rattle.std.proofs.Common.{subst, refl, IsSome}
use Rattle.spool_model.proofs.EntriesLemmas.{from_map-with_state, from_map-no_state}
use Rattle.spool_model.proofs.entries.JobEntries.set_state.Goals as goal
use Rattle.spool_model.proofs.entries.JobEntries.set_state.Goals.{in-Some, in_default}

pub returns : goal.returns
returns c = elim c.match-get_mut.branch [
  | in-Some w ↦ rw (w.self-inside-is, ← c.self.view_is) (
      from_map-with_state c.self.inside.map.entries (c.get_mut.follows.lender w.set_state.new.self).entries c.args.number c.args.state
      w.in-Some.entry.now w.set_state.new.self w.in-Some.ensures.value w.set_state.ensures
      ((c.get_mut.follows.holds w.set_state.new.self).3 (subst IsSome w.in-Some.ensures.value refl)).0)
  | in_default w ↦ rw (w.self-inside-is, c.get_mut.follows.holds-at-none, ← c.self.view_is) (
      from_map-no_state c.self.inside.map.entries c.args.number c.args.state w.in_default.ensures.value)
]
