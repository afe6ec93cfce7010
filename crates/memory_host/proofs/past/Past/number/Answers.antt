use Rattle.std.proofs.Common.{sym, subst, ◌∙◌}
use Rattle.memory_host.specs.inside.Story.{state_of}
use Rattle.std.specs.Prelude.{IsSome}
use Rattle.std.specs.FinMap as finite
use Rattle.host_calls.specs.Directory.{IsHeldAt, names_of, reading_of}
use Rattle.memory_host.proofs.PastLemmas.{held_at, held_known}
use Rattle.memory_host.proofs.past.Past.number.Goals as goal

pub unreachable-requires : goal.unreachable-requires
unreachable-requires c =
    held_known (state_of _) c.self.inside.names c.self.inside.bodies c.self.inside.handed.items c.self.invariant c.args.name.now
    (subst (λ story. IsSome (finite.get (reading_of (state_of story).directory) c.args.name.now)) (sym c.self.view_is) c.requires)
    (sym c.number.ensures ∙ c.in-None.is)

pub returns : goal.returns
returns c = record {
  held = subst (λ story. IsHeldAt (names_of (state_of story).directory) c.args.name.now c.in-Some.number) c.self.view_is
      (held_at (state_of _) c.self.inside.names c.self.inside.bodies c.self.inside.handed.items c.self.invariant c.args.name.now
      c.in-Some.number (sym c.number.ensures ∙ c.in-Some.is));
}
