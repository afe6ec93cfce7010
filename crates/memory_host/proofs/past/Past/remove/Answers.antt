use Rattle.std.proofs.Common.{subst, ◌≡◌, true}
use Rattle.memory_host.specs.Past.{CallLog}
use Rattle.memory_host.specs.inside.Story.{state_of}
use Rattle.memory_host.specs.inside.Table.{has_place}
use Rattle.memory_host.proofs.TableLemmas.{same_name}
use Rattle.memory_host.proofs.PastLemmas.{known_next, known_removed, known_same}
use Rattle.memory_host.proofs.past.Past.remove.Goals as goal

pub change-requires-clause-places : goal.change-requires-clause-places
change-requires-clause-places c = λ name touched.
    subst (λ n. has_place c.reserve-2.new.self.held n ≡ true) (same_name c.args.name.now name touched) c.in_ok-reserve-2.ensures.place

pub invariant_of-self-2 : goal.invariant_of-self-2
invariant_of-self-2 c =
    let s = c.self.inside in
    let story : CallLog = record { opening = s.opening.entries; calls = s.calls.items } in
    known_next _ story _ _ c.change.new.self s.bodies s.handed.items c.push_reserved.ensures.items c.reserve.ensures.items
    (known_removed (state_of story) c.reserve-2.new.self c.change.new.self s.bodies s.bodies s.handed.items
    (known_same (state_of story) s.names c.reserve-2.new.self s.bodies s.bodies s.handed.items c.self.invariant c.reserve-2.ensures.now
    c.reserve-2.ensures.durable c.reserve-2.ensures.pending c.reserve-2.ensures.places)
    c.args.name.now c.change.ensures.now c.change.ensures.durable c.change.ensures.places
    (λ name touched. subst (λ n. has_place c.reserve-2.new.self.held n ≡ true) (same_name c.args.name.now name touched)
    c.in_ok-reserve-2.ensures.place) c.change.ensures.pending)
