use Rattle.memory_host.specs.Past.{CallLog}
use Rattle.memory_host.specs.inside.Story.{state_of}
use Rattle.memory_host.proofs.TableLemmas.{kept_either}
use Rattle.memory_host.proofs.PastLemmas.{known_next, known_renamed, known_same}
use Rattle.memory_host.proofs.past.Past.rename.Goals as goal

pub change-requires-clause-places : goal.change-requires-clause-places
change-requires-clause-places c = λ name touched. kept_either c.reserve-3.new.self.held c.args.from.now c.args.to.now
    (c.reserve-3.ensures.places c.args.from.now c.in_ok-reserve-2.ensures.place) c.in_ok-reserve-3.ensures.place name touched

pub invariant_of-self-2 : goal.invariant_of-self-2
invariant_of-self-2 c =
    let s = c.self.inside in
    let story : CallLog = record { opening = s.opening.entries; calls = s.calls.items } in
    known_next _ story _ _ c.change.new.self s.bodies s.handed.items c.push_reserved.ensures.items c.reserve.ensures.items
    (known_renamed (state_of story) c.reserve-3.new.self c.change.new.self s.bodies s.bodies s.handed.items
    (known_same (state_of story) c.reserve-2.new.self c.reserve-3.new.self s.bodies s.bodies s.handed.items
    (known_same (state_of story) s.names c.reserve-2.new.self s.bodies s.bodies s.handed.items c.self.invariant c.reserve-2.ensures.now
    c.reserve-2.ensures.durable c.reserve-2.ensures.pending c.reserve-2.ensures.places)
    c.reserve-3.ensures.now c.reserve-3.ensures.durable c.reserve-3.ensures.pending c.reserve-3.ensures.places)
    c.args.from.now c.args.to.now c.change.ensures.now c.change.ensures.durable c.change.ensures.places
    (λ name touched. kept_either c.reserve-3.new.self.held c.args.from.now c.args.to.now (c.reserve-3.ensures.places c.args.from.now
    c.in_ok-reserve-2.ensures.place) c.in_ok-reserve-3.ensures.place name touched) c.change.ensures.pending)
