-- What a map of the program is as a finite map.
use Rattle.std.proofs.Common.{◌≡◌, ℕ, List, [], ◌∷◌, cond, sym, ap, subst, ◌∙◌, refl}
use Rattle.std.specs.Prelude.{Option, Some, None, IsSome}
use Rattle.std.specs.Ordering.{nat_cmp, eq_by_cmp}
use Rattle.std.specs.Cmp.{nat_cmp_total, eq_by_cmp_equiv}
use Rattle.std.specs.Map.{lookup}
use Rattle.std.specs.BTreeMap.{is_at}
use Rattle.std.specs.FinMap as finite
use Rattle.std.specs.FinMap.{FinMap, find, from_entries, same_map, get-from_entries, get-insert, get-remove, nat_cmp-IsAntisymmetric}
use Rattle.spool_model.specs.JobTable.{JobEntry, JobState}
use Rattle.spool_model.specs.Steps.{in_state, with_state}

module _ {X : Type 0} where
  -- the value under a number
  abbrev pub held : List (ℕ × X) → ℕ → Option X
  held entries number = lookup (is_at (nat_cmp number)) entries

  find-held : (entries : List (ℕ × X)) (number : ℕ) → find nat_cmp number entries ≡ held entries number
  find-held [] number = refl
  find-held (entry ∷ others) number = ap (cond (eq_by_cmp nat_cmp number entry.0) (Some entry.1)) (find-held others number)

  pub get-from_map : (entries : List (ℕ × X)) (number : ℕ) → finite.get (from_entries {R = nat_cmp} entries) number ≡ held entries number
  get-from_map entries number = get-from_entries nat_cmp_total entries number ∙ find-held entries number

  -- two finite maps that answer alike are equal
  pub same_entries : (first second : FinMap nat_cmp X)
      → ((number : ℕ) → finite.get first number ≡ finite.get second number) → first ≡ second
  same_entries first second alike = same_map nat_cmp_total nat_cmp-IsAntisymmetric first second alike

  -- the entries after one of them is put
  pub from_map-insert : (old new : List (ℕ × X)) (number : ℕ) (value : X)
      → ((other : ℕ) → held new other ≡ cond (is_at (nat_cmp number) other) (Some value) (held old other))
      → from_entries {R = nat_cmp} new ≡ finite.insert (from_entries old) number value
  from_map-insert old new number value updates = same_entries _ _ (λ other.
      get-from_map new other ∙ updates other
      ∙ ap (λ b. cond b (Some value) (held old other)) ((eq_by_cmp_equiv nat_cmp_total).symm number other)
      ∙ sym (get-insert nat_cmp_total (from_entries old) number value other
      ∙ ap (cond (eq_by_cmp nat_cmp other number) (Some value)) (get-from_map old other)))

  -- the same, where what is put is known as another value
  pub from_map-put : (old new : List (ℕ × X)) (number : ℕ) (put value : X) → put ≡ value
      → ((other : ℕ) → held new other ≡ cond (is_at (nat_cmp number) other) (Some put) (held old other))
      → from_entries {R = nat_cmp} new ≡ finite.insert (from_entries old) number value
  from_map-put old new number put value same updates = from_map-insert old new number put updates
      ∙ ap (λ entry. finite.insert (from_entries old) number entry) same

  -- the entries after one of them is taken out
  pub from_map-remove : (old new : List (ℕ × X)) (number : ℕ)
      → ((other : ℕ) → held new other ≡ cond (is_at (nat_cmp number) other) None (held old other))
      → from_entries {R = nat_cmp} new ≡ finite.remove (from_entries old) number
  from_map-remove old new number updates = same_entries _ _ (λ other.
      get-from_map new other ∙ updates other
      ∙ ap (λ b. cond b None (held old other)) ((eq_by_cmp_equiv nat_cmp_total).symm number other)
      ∙ sym (get-remove nat_cmp_total (from_entries old) number other
      ∙ ap (cond (eq_by_cmp nat_cmp other number) None) (get-from_map old other)))

-- the entries after the one under a number, which exists, is in another state
pub from_map-with_state : (old new : List (ℕ × JobEntry)) (number : ℕ) (state : JobState) (before after : JobEntry)
    → Some before ≡ held old number → after ≡ in_state state before
    → ((other : ℕ) → held new other ≡ cond (is_at (nat_cmp number) other) (Some after) (held old other))
    → from_entries {R = nat_cmp} new ≡ with_state number state (finite.get (from_entries {R = nat_cmp} old) number) (from_entries old)
from_map-with_state old new number state before after was is updates =
    from_map-put old new number after (in_state state before) is updates
    ∙ ap (λ held. with_state number state held (from_entries old)) (was ∙ sym (get-from_map old number))

-- where no entry is under the number, none is in another state
pub from_map-no_state : (old : List (ℕ × JobEntry)) (number : ℕ) (state : JobState) → None ≡ held old number
    → from_entries {R = nat_cmp} old ≡ with_state number state (finite.get (from_entries {R = nat_cmp} old) number) (from_entries old)
from_map-no_state old number state none =
    ap (λ held. with_state number state held (from_entries old)) (none ∙ sym (get-from_map old number))

-- an entry that a finite map has is in the map of the program
pub held_from_get : {X : Type 0} (old : List (ℕ × X)) (entries : FinMap nat_cmp X) (number : ℕ) → from_entries old ≡ entries
    → IsSome (finite.get entries number) → IsSome (held old number)
held_from_get old entries number is some =
    subst IsSome (get-from_map old number) (subst (λ entries. IsSome (finite.get entries number)) (sym is) some)

-- no entry is not some entry
pub none_is_not_some : {X : Type 0} (held : Option X) → None ≡ held → IsSome held → ⊥
none_is_not_some None none some = cc
none_is_not_some (Some entry) none some = cc
