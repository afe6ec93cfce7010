-- What a table has under a number, after one of its entries is put or taken out.
use Rattle.std.proofs.Common.{◌≡◌, ◌⊎◌, ℕ, Bool, true, false, cond, ap, subst, ◌∙◌, refl, inl, inr}
use Rattle.std.specs.Prelude.{Option, Some, None, IsSome, nat_eq}
use Rattle.std.specs.Ordering.{nat_cmp}
use Rattle.std.specs.Cmp.{nat_cmp_total, unsigned_tied}
use Rattle.std.proofs.lemmas.Bool.Decides.{eqb_tells}
use Rattle.std.specs.FinMap as map
use Rattle.std.specs.FinMap.{FinMap, get-insert, get-remove}

module _ {X : Type 0} where
  -- a choice that is known, from what the other part is not
  pub other_choice : (b : Bool) (put held target : Option X) → ¬ (put ≡ target) → cond b put held ≡ target → held ≡ target
  other_choice true put held target differs is = absurd (differs is)
  other_choice false put held target differs is = is

  -- what is under a number after an entry was put under another, or the same
  pub get-put : (entries : FinMap nat_cmp X) (number other : ℕ) (entry : X)
      → map.get (map.insert entries number entry) other ≡ cond (nat_eq other number) (Some entry) (map.get entries other)
  get-put entries number other entry = get-insert nat_cmp_total entries number entry other
      ∙ ap (λ b. cond b (Some entry) (map.get entries other)) (unsigned_tied other number)

  -- what is under a number after an entry was taken out
  pub get-taken : (entries : FinMap nat_cmp X) (number other : ℕ)
      → map.get (map.remove entries number) other ≡ cond (nat_eq other number) None (map.get entries other)
  get-taken entries number other = get-remove nat_cmp_total entries number other
      ∙ ap (λ b. cond b None (map.get entries other)) (unsigned_tied other number)

  pub get-put_same : (entries : FinMap nat_cmp X) (number : ℕ) (entry : X) → map.get (map.insert entries number entry) number ≡ Some entry
  get-put_same entries number entry = elim (eqb_tells number number) [
    | inl same ↦ get-put entries number number entry ∙ ap (λ b. cond b (Some entry) (map.get entries number)) same.0
    | inr other ↦ absurd (other.1 refl)
  ]

  pub get-put_other : (entries : FinMap nat_cmp X) (number other : ℕ) (entry : X) → ¬ (other ≡ number)
      → map.get (map.insert entries number entry) other ≡ map.get entries other
  get-put_other entries number other entry differ = elim (eqb_tells other number) [
    | inl same ↦ absurd (differ same.1)
    | inr apart ↦ get-put entries number other entry ∙ ap (λ b. cond b (Some entry) (map.get entries other)) apart.0
  ]

  pub get-taken_same : (entries : FinMap nat_cmp X) (number : ℕ) → map.get (map.remove entries number) number ≡ None
  get-taken_same entries number = elim (eqb_tells number number) [
    | inl same ↦ get-taken entries number number ∙ ap (λ b. cond b None (map.get entries number)) same.0
    | inr other ↦ absurd (other.1 refl)
  ]

  pub get-taken_other : (entries : FinMap nat_cmp X) (number other : ℕ) → ¬ (other ≡ number)
      → map.get (map.remove entries number) other ≡ map.get entries other
  get-taken_other entries number other differ = elim (eqb_tells other number) [
    | inl same ↦ absurd (differ same.1)
    | inr apart ↦ get-taken entries number other ∙ ap (λ b. cond b None (map.get entries other)) apart.0
  ]

  -- where an entry is, after one was put: it is that one, or it was there
  pub some_after_put : (entries : FinMap nat_cmp X) (number other : ℕ) (entry : X)
      → IsSome (map.get (map.insert entries number entry) other) → (other ≡ number) ⊎ IsSome (map.get entries other)
  some_after_put entries number other entry some = elim (eqb_tells other number) [
    | inl same ↦ inl same.1
    | inr apart ↦ inr (subst IsSome (get-put_other entries number other entry apart.1) some)
  ]

  -- where an entry is, after one was taken out, it was there
  pub some_after_taken : (entries : FinMap nat_cmp X) (number other : ℕ) → IsSome (map.get (map.remove entries number) other)
      → IsSome (map.get entries other)
  some_after_taken entries number other some = elim (eqb_tells other number) [
    | inl same ↦ absurd (no_some _ (get-taken entries number other ∙ ap (λ b. cond b None (map.get entries other)) same.0) some)
    | inr apart ↦ subst IsSome (get-taken_other entries number other apart.1) some
  ] where
    no_some : (held : Option X) → held ≡ None → IsSome held → ⊥
    no_some None none some = cc
    no_some (Some entry) none some = cc
