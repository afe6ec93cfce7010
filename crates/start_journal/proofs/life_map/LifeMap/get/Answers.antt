use Rattle.std.proofs.Common.{arith, sym, ap, ◌-◌, ◌∙◌}
use Rattle.std.specs.List.{slice_get}
use Rattle.start_journal.specs.Lifecycles.{life_under}
use Rattle.start_journal.proofs.LifeMapLemmas.{found_at, found_below, given_at}
use Rattle.start_journal.proofs.life_map.LifeMap.get.Goals as goal

pub returns-then-number-self : goal.returns-then-number-self
returns-then-number-self c =
    c.get.ensures.value ∙ sym (found_below c.args.number c.self.inside.first c.self.inside.below.entries c.self.inside.row.items
    (omega (arith, c.if-number-self.true)))
    ∙ ap (λ lives. life_under lives c.args.number) c.self.view_is

pub returns-else-number-self : goal.returns-else-number-self
returns-else-number-self c =
    given_at c.get-else-number-self.result c.as_slice.result.now (c.args.number - c.self.inside.first) c.get-else-number-self.ensures.lookup
    ∙ ap (λ row. slice_get row (c.args.number - c.self.inside.first)) c.as_slice.ensures.value
    ∙ sym (found_at c.args.number c.self.inside.first (c.args.number - c.self.inside.first) c.self.inside.below.entries
    c.self.inside.row.items c.self.invariant.below (omega (arith, c.if-number-self.false)))
    ∙ ap (λ lives. life_under lives c.args.number) c.self.view_is
