use Rattle.std.proofs.Common.{sym, subst}
use Rattle.memory_host.specs.Past.{CallLog}
use Rattle.memory_host.specs.inside.Story.{state_of}
use Rattle.host_calls.specs.Directory.{IsHeldAt, names_of}
use Rattle.memory_host.proofs.PastLemmas.{number_known, known_next, known_synced}
use Rattle.memory_host.proofs.past.Past.sync.Goals as goal

pub sync-requires : goal.sync-requires
sync-requires c =
    number_known (state_of _) c.self.inside.names c.self.inside.bodies c.self.inside.handed.items c.self.invariant
    c.args.name.now c.number-number.result
    (subst (λ story. IsHeldAt (names_of (state_of story).directory) c.args.name.now c.number-number.result) (sym c.self.view_is)
    c.number-number.ensures.held)

pub invariant_of-self-2 : goal.invariant_of-self-2
invariant_of-self-2 c =
    let s = c.self.inside in
    let story : CallLog = record { opening = s.opening.entries; calls = s.calls.items } in
    known_next _ story _ _ s.names c.sync.new.self s.handed.items c.push_reserved.ensures.items c.reserve.ensures.items
    (known_synced (state_of story) s.names s.names s.bodies c.sync.new.self s.handed.items c.self.invariant c.number-number.result
    c.sync.ensures.list c.sync.ensures.unsettled)
