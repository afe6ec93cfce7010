-- What HaveChildren says of children, as what a turn requests and gives.
use Rattle.std.proofs.Common.{◌≡◌, ◌==◌, ◌++◌, ℕ, Bool, true, List, ap, subst, sym}
use Rattle.std.specs.Prelude.{Contains}
use Rattle.std.proofs.lemmas.List.Elements.{Contains-append_left}
use Rattle.std.specs.Cmp.{IsEquivalence}
use Rattle.std.proofs.lemmas.Bool.{eqb-true}
use Rattle.std.proofs.lemmas.Cmp.{nat_eq_equiv}
use Rattle.std.proofs.lemmas.Map.Views.{Contains-from_any, list_any-from_Contains}
use Rattle.host_calls.specs.declared.child.Child.{Child}
use Rattle.daemon_turn.specs.declared.kid.Kid.{Kid}
use Rattle.daemon_turn.specs.Kids.{AreChildren, KeepsChildren}
use Rattle.scenarios.specs.Machine.{HaveChildren}

abbrev is_same : Child → Child → Bool
is_same one other = one.id == other.id

same : (one other : Child) → is_same one other ≡ true → one ≡ other
same one other is = ap (λ (id : ℕ). record { id = id }) (eqb-true one.id other.id is)

tells : IsEquivalence is_same
tells = record {
  refl = λ one. nat_eq_equiv.refl one.id;
  symm = λ one other. nat_eq_equiv.symm one.id other.id;
  congr = λ one other third. nat_eq_equiv.congr one.id other.id third.id;
}

pub are_children : (children : List Child) (kids : List Kid) → HaveChildren children kids → AreChildren children kids
are_children children kids have = record { each = λ kid has. Contains-from_any same kid.child children (have.each kid has) }

pub have_children : (children : List Child) (kids : List Kid) → AreChildren children kids → HaveChildren children kids
have_children children kids are = record { each = λ kid has. list_any-from_Contains tells kid.child children (are.each kid has) }

-- they stay so where the children stay first
pub children_kept : (children more : List Child) (kids : List Kid) → KeepsChildren children more → HaveChildren children kids
    → HaveChildren more kids
children_kept children more kids kept have =
    let are : AreChildren children kids = are_children children kids have in
    have_children more kids (record {
      each = λ kid has. subst (λ (all : List Child). Contains all kid.child) (sym kept.1)
          (Contains-append_left children kept.0 kid.child (are.each kid has));
    })
