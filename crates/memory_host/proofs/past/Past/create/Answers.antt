use Rattle.std.proofs.Common.{sym, subst}
use Rattle.memory_host.specs.Past.{CallLog, with_new_file}
use Rattle.memory_host.specs.inside.Story.{state_of}
use Rattle.memory_host.specs.inside.Known.{IsStateKept}
use Rattle.memory_host.proofs.PastLemmas.{known_kept, known_next}
use Rattle.memory_host.proofs.past.Past.create.Goals as goal

pub invariant_of-self-in_err-add_file : goal.invariant_of-self-in_err-add_file
invariant_of-self-in_err-add_file c =
    let s = c.self.inside in
    let story : CallLog = record { opening = s.opening.entries; calls = s.calls.items } in
    known_kept story c.reserve.new.self.items c.add_file.new.names c.add_file.new.bodies s.handed.items c.reserve.ensures.items
    (c.in_err-add_file.ensures (state_of story) s.handed.items c.self.invariant)

pub invariant_of-self-2 : goal.invariant_of-self-2
invariant_of-self-2 c =
    let s = c.self.inside in
    let story : CallLog = record { opening = s.opening.entries; calls = s.calls.items } in
    known_next _ story _ _ c.add_file.new.names c.add_file.new.bodies s.handed.items c.push_reserved.ensures.items c.reserve.ensures.items
    (subst (λ bytes. IsStateKept (with_new_file c.args.name.now bytes (state_of story)) c.add_file.new.names c.add_file.new.bodies
    s.handed.items) (sym c.in_ok-copy.ensures)
    (c.in_ok-add_file.ensures (state_of story) s.handed.items c.self.invariant))
