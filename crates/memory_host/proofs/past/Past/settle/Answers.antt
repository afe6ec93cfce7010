use Rattle.memory_host.specs.Past.{CallLog}
use Rattle.memory_host.specs.inside.Story.{state_of}
use Rattle.memory_host.proofs.PastLemmas.{known_next, known_settled}
use Rattle.memory_host.proofs.past.Past.settle.Goals as goal

pub invariant_of-self-2 : goal.invariant_of-self-2
invariant_of-self-2 c =
    let s = c.self.inside in
    let story : CallLog = record { opening = s.opening.entries; calls = s.calls.items } in
    known_next _ story _ _ c.sync.new.self c.settle.new.self s.handed.items c.push_reserved.ensures.items c.reserve.ensures.items
    (known_settled (state_of story) s.names c.sync.new.self s.bodies c.settle.new.self s.handed.items c.self.invariant c.sync.ensures.now
    c.sync.ensures.durable c.sync.ensures.pending c.settle.ensures.list)
