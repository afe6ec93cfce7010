use Rattle.std.proofs.Common.{◌<◌, arith, sym, ap, subst, ◌∙◌}
use Rattle.std.specs.Prelude.{◌==◌, if◌then◌else◌}
use Rattle.std.specs.List.{All}
use Rattle.std.specs.Map.{keys_of}
use Rattle.std.specs.Ordering.{nat_cmp}
use Rattle.std.proofs.lemmas.Map.Views.{All-keys-insert_entry}
use Rattle.start_journal.specs.inside.LivesOf.{life_of}
use Rattle.start_journal.proofs.LifeMapLemmas.{told_below, told_in_row}
use Rattle.start_journal.proofs.life_map.LifeMap.put.Goals as goal

pub invariant_of-self : goal.invariant_of-self
invariant_of-self c = record {
  below = subst (λ entries. All (λ key. key < c.self.inside.first) (keys_of entries)) (sym c.in_ok-insert.ensures.entries)
      (All-keys-insert_entry nat_cmp c.args.number c.args.life (λ key. key < c.self.inside.first) c.self.inside.below.entries
      c.self.invariant.below (omega (arith, c.if-number-self.true)));
  fits = c.self.invariant.fits;
}

pub returns-in_ok-insert : goal.returns-in_ok-insert
returns-in_ok-insert c = λ other.
    told_below c.args.number c.self.inside.first c.args.life c.self.inside.below.entries c.insert.new.self.entries c.self.inside.row.items
    (omega (arith, c.if-number-self.true)) c.self.invariant.below
    (invariant_of-self c).below c.in_ok-insert.ensures.updates.0 other
    ∙ ap (λ lives. if other == c.args.number then c.args.life else life_of lives other) c.self.view_is

pub returns-in_ok-put_in_row : goal.returns-in_ok-put_in_row
returns-in_ok-put_in_row c = λ other.
    told_in_row c.args.number c.self.inside.first c.args.life c.self.inside.below.entries c.self.inside.row.items c.put_in_row.new.row.items
    (omega (arith, c.if-number-self.false)) c.self.invariant.below
    c.in_ok-put_in_row.ensures.told other
    ∙ ap (λ lives. if other == c.args.number then c.args.life else life_of lives other) c.self.view_is
