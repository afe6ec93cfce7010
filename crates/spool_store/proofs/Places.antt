-- The place of a number, as a search for it gives it.
use Rattle.std.proofs.Common.{◌≡◌, ℕ, ◌<◌, ◌≤◌, true, false, ltb, List, length, map, get_or, refl, sym, ap, subst, ◌∙◌, add-one, arith, Contains}
use Rattle.std.specs.Prelude.{Option, Some, None, IfNone, IsSome, T}
use Rattle.std.specs.Cmp.{nat_cmp_total}
use Rattle.spool_shows.proofs.EntryLists.{has_key}
use Rattle.spool_shows.proofs.Membership.{has_contained, has_made}
use Rattle.std.specs.FinMap.{find, is_sorted}
use Rattle.std.specs.List.Sorted.{IsNonDecreasingBy, IsPartitionPoint}
use Rattle.std.specs.Ordering.{nat_cmp}
use Rattle.std.proofs.lemmas.Bool.Decides.{nat_tests}
use Rattle.std.proofs.lemmas.List.Sorted.{IsNonDecreasingBy-from_all_adjacent}
use Rattle.spool_store.proofs.Edits.{IsBefore, IsFrom, at_place, neighbours_rise}

module _ {X V : Type 0} (entry : X → ℕ × V) where
  pub rises_by_number : (xs : List X) → T (is_sorted nat_cmp (map entry xs)) → IsNonDecreasingBy (λ x. (entry x).0) xs
  rises_by_number xs rise = IsNonDecreasingBy-from_all_adjacent (λ x. (entry x).0) xs (λ k d inside. subst (λ next.
      (entry (get_or xs k d)).0 ≤ (entry (get_or xs next d)).0) (sym (add-one k)) (neighbours_rise entry xs k d rise (omega arith)))

  before : (a b : ℕ) → ltb a b ≡ true → a < b
  before a b is = grind (arith, nat_tests)

  from : (a b : ℕ) → ltb a b ≡ false → b ≤ a
  from a b is = grind (arith, nat_tests)

  pub place_by_number : (xs : List X) (number place : ℕ) → IsPartitionPoint (λ x. ltb (entry x).0 number ≡ true)
      (λ x. ltb (entry x).0 number ≡ false) xs place → IsPartitionPoint (IsBefore entry number) (IsFrom entry number) xs place
  place_by_number xs number place point =
      (λ k d low high. before _ number (point.0 k d low high), λ k d low high. from _ number (point.1 k d low high))

  -- of a number that exists, from a search in a slice of the list
  pub is_at_place : (xs slice : List X) (place number : ℕ) → slice ≡ xs → T (is_sorted nat_cmp (map entry xs))
      → IsPartitionPoint (IsBefore entry number) (IsFrom entry number) slice place → IsSome (find nat_cmp number (map entry xs))
      → (place < length xs) × ((d : X) → Some (entry (get_or xs place d)).1 ≡ find nat_cmp number (map entry xs))
      × ((d : X) → (entry (get_or xs place d)).0 ≡ number)
  is_at_place xs slice place number same rise point some =
      let at : IsPartitionPoint (IsBefore entry number) (IsFrom entry number) xs place =
      subst (λ list. IsPartitionPoint (IsBefore entry number) (IsFrom entry number) list place) same point in
      by_scanned (find nat_cmp number (map entry xs)) (λ value found. at_place entry xs place number value rise at.0 at.1 found) some where
        by_scanned : (found : Option V) → ((value : V) → found ≡ Some value
            → (place < length xs) × ((d : X) → entry (get_or xs place d) ≡ (number, value))) → IsSome found → (place < length xs)
            × ((d : X) → Some (entry (get_or xs place d)).1 ≡ found) × ((d : X) → (entry (get_or xs place d)).0 ≡ number)
        by_scanned None at held = let impossible : false ≡ true = held in cc
        by_scanned (Some value) at held =
            let there : (place < length xs) × ((d : X) → entry (get_or xs place d) ≡ (number, value)) = at value refl in
            (there.0, λ d i. Some (there.1 d i).1, λ d i. (there.1 d i).0)

  -- what is at a place of a slice of the list is found by its number
  pub found_at : (xs slice : List X) (place : ℕ) (x : X) → slice ≡ xs → T (is_sorted nat_cmp (map entry xs))
      → (place < length slice) × ((d : X) → x ≡ get_or slice place d) → find nat_cmp (entry x).0 (map entry xs) ≡ Some (entry x).1
  found_at xs slice place x same rise at =
      has_key nat_cmp nat_cmp_total (map entry xs) (entry x).0 (entry x).1 rise
      (has_made entry xs x (has_contained xs x (subst (λ list. Contains list x) same (place, at.0, sym (at.1 x)))))

  -- where another is at the place of a number, or none, the number is not there
  pub other_at : (xs slice searched : List X) (place number : ℕ) (x : X) → slice ≡ xs → searched ≡ xs → T (is_sorted nat_cmp (map entry xs))
      → IsPartitionPoint (IsBefore entry number) (IsFrom entry number) searched place → (place < length slice)
      × ((d : X) → x ≡ get_or slice place d) → ((entry x).0 ≡ number → ⊥) → IsSome (find nat_cmp number (map entry xs)) → ⊥
  other_at xs slice searched place number x same same_searched rise point at differ some =
      let there : (place < length xs) × ((d : X) → Some (entry (get_or xs place d)).1 ≡ find nat_cmp number (map entry xs))
      × ((d : X) → (entry (get_or xs place d)).0 ≡ number) = is_at_place xs searched place number same_searched rise point some in
      differ (ap (λ y. (entry y).0) (at.1 x) ∙ ap (λ list. (entry (get_or list place x)).0) same ∙ there.2 x)

  pub none_at : (xs slice searched : List X) (place number : ℕ) → slice ≡ xs → searched ≡ xs → T (is_sorted nat_cmp (map entry xs))
      → IsPartitionPoint (IsBefore entry number) (IsFrom entry number) searched place → length slice ≤ place
      → IsSome (find nat_cmp number (map entry xs)) → ⊥
  none_at xs slice searched place number same same_searched rise point past some =
      let there : (place < length xs) × ((d : X) → Some (entry (get_or xs place d)).1 ≡ find nat_cmp number (map entry xs))
      × ((d : X) → (entry (get_or xs place d)).0 ≡ number) = is_at_place xs searched place number same_searched rise point some in
      let lengths : length slice ≡ length xs = ap length same in
      let inside : place < length xs = there.0 in
      omega arith

-- a fact that holds also where there is nothing
pub if_none : {X : Type 0} → (given : Option X) (P : Type 0) → P → IfNone given P
if_none None P holds = holds
if_none (Some x) P holds = tt

-- what is not there is none
pub not_found : {X : Type 0} → (found : Option X) → (IsSome found → ⊥) → found ≡ None
not_found None absent = refl
not_found (Some x) absent = absurd (absent refl)
