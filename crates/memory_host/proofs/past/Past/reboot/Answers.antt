use Rattle.memory_host.specs.Past.{CallLog}
use Rattle.memory_host.specs.inside.Story.{state_of}
use Rattle.memory_host.proofs.PastLemmas.{known_next, known_crashed}
use Rattle.memory_host.proofs.past.Past.reboot.Goals as goal

pub invariant_of-self-2 : goal.invariant_of-self-2
invariant_of-self-2 c =
    let s = c.self.inside in
    let story : CallLog = record { opening = s.opening.entries; calls = s.calls.items } in
    known_next _ story _ _ c.crash.new.self c.crash-2.new.self s.handed.items c.push_reserved.ensures.items c.reserve.ensures.items
    (known_crashed (state_of story) s.names c.crash.new.self s.bodies c.crash-2.new.self s.handed.items c.self.invariant c.args.pick
    c.crash.ensures.now c.crash.ensures.durable c.crash.ensures.pending c.crash-2.ensures.list)
