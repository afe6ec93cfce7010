-- The children of a host, by their numbers.
use Rattle.std.proofs.Common.{◌≡◌, ◌+◌, ◌<◌, ℕ, zero, suc, List, [], ◌∷◌, ◌++◌, length, map, Some, refl, ap, sym, ◌∙◌, inl, inr, arith}
use Rattle.std.specs.Prelude.{Contains, slice_get, slice_set}
use Rattle.std.proofs.lemmas.List.Elements.{Contains-push_cases}
use Rattle.host_calls.specs.declared.child.Child.{Child}
use Rattle.unix_host.specs.Children.{first_children}

-- each child has a number below their count
pub below_count : (count : ℕ) (child : Child) → Contains (first_children count) child → child.id < count
below_count zero child is = absurd (omega (arith, is.1))
below_count (suc count) child is = elim (Contains-push_cases (first_children count) (record { id = count }) child is) [
  | inl before ↦ omega (arith, below_count count child before)
  | inr last ↦ omega (arith, ap (λ (one : Child). one.id) last)
]

-- one more child
pub one_more : (count longer id : ℕ) → longer ≡ count + 1 → id ≡ count
    → first_children longer ≡ first_children count ++ record { id = id } ∷ []
one_more count longer id is last =
    let next : longer ≡ suc count = omega (arith, is) in
    ap first_children next ∙ ap (λ n. first_children count ++ record { id = n } ∷ []) (sym last)

-- what belongs to the last of a list
pub last_mapped : {X Y : Type 0} (f : X → Y) (xs new : List X) (x : X) (i : ℕ)
    → new ≡ xs ++ x ∷ [] → i ≡ length xs → slice_get (map f new) i ≡ Some (f x)
last_mapped {X} {Y} f xs new x i is at = ap (λ list. slice_get (map f list) i) is ∙ ap (slice_get (map f (xs ++ x ∷ []))) at ∙ go xs
  where
    go : (xs : List X) → slice_get (map f (xs ++ x ∷ [])) (length xs) ≡ Some (f x)
    go [] = refl
    go (first ∷ others) = go others

-- an element that was written is read back
pub slice_get-set : {X : Type 0} (xs : List X) (i : ℕ) (x : X) → i < length xs → slice_get (slice_set xs i x) i ≡ Some x
slice_get-set [] i x within = absurd (omega arith)
slice_get-set (first ∷ others) zero x within = refl
slice_get-set (first ∷ others) (suc i) x within = slice_get-set others i x (omega arith)
