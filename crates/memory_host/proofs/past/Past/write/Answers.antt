use Rattle.std.proofs.Common.{sym, length, subst}
use Rattle.memory_host.specs.Past.{CallLog, after_call}
use Rattle.memory_host.specs.inside.Story.{state_of}
use Rattle.memory_host.specs.inside.Known.{IsStateKept}
use Rattle.memory_host.specs.declared.past_call.PastCall.TheVariants.{Written}
use Rattle.host_calls.specs.Directory.{IsHeldAt, names_of, reading_of}
use Rattle.host_calls.specs.World.{IsWithinFile}
use Rattle.memory_host.proofs.PastLemmas.{number_known, within_known, known_next, known_written}
use Rattle.memory_host.proofs.past.Past.write.Goals as goal

pub write-requires-clause-known : goal.write-requires-clause-known
write-requires-clause-known c =
    number_known (state_of _) c.self.inside.names c.self.inside.bodies c.self.inside.handed.items c.self.invariant
    c.args.name.now c.number-number.result
    (subst (λ story. IsHeldAt (names_of (state_of story).directory) c.args.name.now c.number-number.result) (sym c.self.view_is)
    c.number-number.ensures.held)

pub write-requires-clause-range : goal.write-requires-clause-range
write-requires-clause-range c =
    within_known (state_of _) c.self.inside.names c.self.inside.bodies c.self.inside.handed.items c.self.invariant c.args.name.now
    c.number-number.result c.args.offset (length c.args.bytes.now)
    (subst (λ story. IsHeldAt (names_of (state_of story).directory) c.args.name.now c.number-number.result) (sym c.self.view_is)
    c.number-number.ensures.held)
    (subst (λ story. IsWithinFile (reading_of (state_of story).directory) c.args.name.now c.args.offset (length c.args.bytes.now))
    (sym c.self.view_is) c.requires)

pub invariant_of-self-2 : goal.invariant_of-self-2
invariant_of-self-2 c =
    let s = c.self.inside in
    let story : CallLog = record { opening = s.opening.entries; calls = s.calls.items } in
    known_next _ story _ _ s.names c.write.new.self s.handed.items c.push_reserved.ensures.items c.reserve.ensures.items
    (subst (λ bytes. IsStateKept (after_call (Written c.number-number.result c.args.offset bytes) (state_of story)) s.names c.write.new.self
    s.handed.items) (sym c.in_ok-copy.ensures)
    (known_written (state_of story) s.names s.names s.bodies c.write.new.self s.handed.items c.self.invariant c.number-number.result
    c.args.offset c.args.bytes.now
    (number_known (state_of _) c.self.inside.names c.self.inside.bodies c.self.inside.handed.items c.self.invariant
    c.args.name.now c.number-number.result
    (subst (λ story. IsHeldAt (names_of (state_of story).directory) c.args.name.now c.number-number.result) (sym c.self.view_is)
    c.number-number.ensures.held))
    c.in_ok-write.ensures.list c.in_ok-write.ensures.unsettled))
