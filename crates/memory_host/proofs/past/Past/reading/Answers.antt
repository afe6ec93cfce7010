use Rattle.std.proofs.Common.{sym, ap, ◌∙◌}
use Rattle.memory_host.specs.inside.Story.{state_of}
use Rattle.std.specs.Prelude.{Some}
use Rattle.std.specs.FinMap as finite
use Rattle.host_calls.specs.Directory.{reading_of}
use Rattle.memory_host.proofs.PastLemmas.{held_at, number_known, reading_known, none_known}
use Rattle.memory_host.proofs.past.Past.reading.Goals as goal

pub bytes-requires : goal.bytes-requires
bytes-requires c =
    number_known (state_of _) c.self.inside.names c.self.inside.bodies c.self.inside.handed.items c.self.invariant
    c.args.name.now c.in-Some.number
    (held_at (state_of _) c.self.inside.names c.self.inside.bodies c.self.inside.handed.items c.self.invariant c.args.name.now
    c.in-Some.number (sym c.number.ensures ∙ c.in-Some.is))

pub returns-in-Some : goal.returns-in-Some
returns-in-Some c =
    ap Some c.bytes.ensures
    ∙ sym (reading_known (state_of _) c.self.inside.names c.self.inside.bodies c.self.inside.handed.items c.self.invariant
    c.args.name.now c.in-Some.number
    (held_at (state_of _) c.self.inside.names c.self.inside.bodies c.self.inside.handed.items c.self.invariant c.args.name.now
    c.in-Some.number (sym c.number.ensures ∙ c.in-Some.is)))
    ∙ ap (λ story. finite.get (reading_of (state_of story).directory) c.args.name.now) c.self.view_is

pub returns-in-None : goal.returns-in-None
returns-in-None c =
    sym (none_known (state_of _) c.self.inside.names c.self.inside.bodies c.self.inside.handed.items c.self.invariant c.args.name.now
    (sym c.number.ensures ∙ c.in-None.is))
    ∙ ap (λ story. finite.get (reading_of (state_of story).directory) c.args.name.now) c.self.view_is
