use Rattle.std.proofs.Common.{sym, ap, subst, ◌∙◌}
use Rattle.memory_host.specs.Past.{CallLog}
use Rattle.memory_host.specs.inside.Story.{state_of}
use Rattle.host_calls.specs.Directory.{IsHeldAt, names_of}
use Rattle.memory_host.proofs.PastLemmas.{number_known, script_more, known_handed, known_next}
use Rattle.memory_host.proofs.past.Past.hand_over.Goals as goal

pub bytes-requires : goal.bytes-requires
bytes-requires c =
    number_known (state_of _) c.self.inside.names c.self.inside.bodies c.self.inside.handed.items c.self.invariant
    c.args.name.now c.number-body.result
    (subst (λ story. IsHeldAt (names_of (state_of story).directory) c.args.name.now c.number-body.result) (sym c.self.view_is)
    c.number-body.ensures.held)

pub invariant_of-self-2 : goal.invariant_of-self-2
invariant_of-self-2 c =
    let s = c.self.inside in
    let story : CallLog = record { opening = s.opening.entries; calls = s.calls.items } in
    known_next _ story _ _ s.names s.bodies _ c.push_reserved-2.ensures.items c.reserve.ensures.items
    (known_handed (state_of story) s.names s.names s.bodies s.bodies s.handed.items c.self.invariant c.args.number c.number-body.result
    c.args.nice c.args.started c.push_reserved.new.self.items
    (script_more s.handed.items c.reserve-2.new.self.items c.push_reserved.new.self.items c.args.number _ _ c.args.nice c.args.started
    c.reserve-2.ensures.items c.push_reserved.ensures.items
    (c.in_ok-script.ensures ∙ c.bytes.ensures ∙ ap (λ body. body.bytes) (sym (c.self.invariant.bodied.each c.number-body.result)))))
