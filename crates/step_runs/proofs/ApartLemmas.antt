-- Lists of which no two elements have the same number.
use Rattle.std.proofs.Common.{◌≡◌, ◌≢◌, ◌⊎◌, ◌<◌, ◌≤◌, ◌+◌, ◌==◌, ◌||◌, ◌++◌, ℕ, zero, suc, Bool, true, false, cond, nat_eq, List, [], ◌∷◌, length, map, filter, inl, inr, sym, ap, subst, ◌∙◌, refl, arith}
use Rattle.std.specs.Prelude.{AllPairs, All, Contains, IsPermutation, Result, Ok, Err, is_ok}
use Rattle.std.specs.Bool.{Decides}
use Rattle.std.specs.Cmp.{nat_cmp_total, ranks}
use Rattle.std.specs.List.{list_any, slice_index_or}
use Rattle.std.specs.List.Sorted.{IsBinarySearchResult, IsNonDecreasingBy, IsSearchInRange, IsSortedBy}
use Rattle.std.specs.Ordering.{MatchOrdering, is_lt, nat_cmp}
use Rattle.std.specs.declared.cmp.Ordering.{Ordering}
use Rattle.std.specs.declared.cmp.Ordering.TheVariants.{Less, Equal, Greater}
use Rattle.std.proofs.lemmas.Bool.{cases_lt}
use Rattle.std.proofs.lemmas.Bool.Decides.{Decides-eqb, eqb_tells, nat_tests}
use Rattle.std.proofs.lemmas.List.{get_or-map, length-map}
use Rattle.std.proofs.lemmas.List.Folds.{list_any_none}
use Rattle.std.proofs.lemmas.List.Sorted.{IsPermutation-map, searchable_from_sorted}
use Rattle.std.proofs.lemmas.Map.Keys.{IsDistinct-IsPermutation}
use Rattle.std.proofs.lemmas.Map.Made.{AllPairs-from_IsDistinct, IsDistinct-from_AllPairs}
use Rattle.queue_rules.specs.Order.{Differ}
use Rattle.spool_shows.proofs.Membership.{Has, any_passes, contained, filtered_has, has_contained, has_either, has_left, has_made, has_right, made_has}

-- an item of a list is the same by any default
same_default : {X : Type 0} (items : List X) (count : ℕ) (one other : X) → count < length items
    → slice_index_or items count one ≡ slice_index_or items count other
same_default [] count one other below = absurd (omega arith)
same_default (first ∷ items) zero one other below = refl
same_default (first ∷ items) (suc count) one other below = same_default items count one other (omega arith)

-- what holds of all is what holds of each that exists
pub all_each : {X : Type 0} (P : X → Type 0) (xs : List X) → All P xs → (x : X) → Has xs x → P x
all_each P xs all x has = let is : Contains xs x = contained xs x has in subst P is.2 (all is.0 x is.1)

pub each_all : {X : Type 0} (P : X → Type 0) (xs : List X) → ((x : X) → Has xs x → P x) → All P xs
each_all P xs each k d inside =
    each (slice_index_or xs k d) (has_contained xs (slice_index_or xs k d) (k, inside, same_default xs k (slice_index_or xs k d) d inside))

-- each element and each later one
pub pairs_tail : {X : Type 0} (R : X → X → Type 0) (x : X) (xs : List X) → AllPairs R (x ∷ xs) → AllPairs R xs
pairs_tail R x xs pairs i j d before within = pairs (suc i) (suc j) d (omega arith) (omega arith)

pub pairs_head : {X : Type 0} (R : X → X → Type 0) (x : X) (xs : List X) → AllPairs R (x ∷ xs) → (y : X) → Has xs y → R x y
pairs_head R x xs pairs y has =
    let is : Contains xs y = contained xs y has in
    subst (R x) is.2 (pairs 0 (suc is.0) y (omega arith) (omega (arith, is.1)))

pub pairs_cons : {X : Type 0} (R : X → X → Type 0) (x : X) (xs : List X) → ((y : X) → Has xs y → R x y)
    → AllPairs R xs → AllPairs R (x ∷ xs)
pairs_cons R x xs head tail zero zero d before within = absurd (omega arith)
pairs_cons {X} R x xs head tail zero (suc j) d before within = each_all (R x) xs head j d (omega arith)
pairs_cons R x xs head tail (suc i) zero d before within = absurd (omega arith)
pairs_cons R x xs head tail (suc i) (suc j) d before within = tail i j d (omega arith) (omega arith)

pub pairs_nil : {X : Type 0} (R : X → X → Type 0) → AllPairs R []
pairs_nil R i j d before within = absurd (omega arith)

-- no number occurs twice
abbrev pub Apart : List ℕ → Type 0
Apart [] = Unit {0}
Apart (number ∷ later) = (Has later number → ⊥) × Apart later

pub apart_differ : (numbers : List ℕ) → Apart numbers → Differ numbers
apart_differ [] apart = pairs_nil (λ first second. first ≢ second)
apart_differ (number ∷ later) apart =
    pairs_cons (λ first second. first ≢ second) number later (λ other has same. apart.0 (subst (Has later) (sym same) has))
    (apart_differ later apart.1)

pub differ_apart : (numbers : List ℕ) → Differ numbers → Apart numbers
differ_apart [] differ = tt
differ_apart (number ∷ later) differ = (
  λ has. pairs_head (λ first second. first ≢ second) number later differ number has refl,
  differ_apart later (pairs_tail (λ first second. first ≢ second) number later differ),
)

pub apart_append : (first later : List ℕ) → Apart first → Apart later → ((number : ℕ) → Has first number → Has later number → ⊥)
    → Apart (first ++ later)
apart_append [] later one other none = other
apart_append (number ∷ first) later one other none = (
  λ has. elim (has_either first later number has) [ inl is ↦ one.0 is | inr is ↦ none number (inl refl) is ],
  apart_append first later one.1 other (λ n is. none n (inr is)),
)

pub apart_left : (first later : List ℕ) → Apart (first ++ later) → Apart first
apart_left [] later apart = tt
apart_left (number ∷ first) later apart = (λ has. apart.0 (has_left first later number has), apart_left first later apart.1)

pub apart_right : (first later : List ℕ) → Apart (first ++ later) → Apart later
apart_right [] later apart = apart
apart_right (number ∷ first) later apart = apart_right first later apart.1

pub apart_between : (first later : List ℕ) → Apart (first ++ later) → (number : ℕ) → Has first number → Has later number → ⊥
apart_between [] later apart number one other = one
apart_between (same ∷ first) later apart number (inl is) other = apart.0 (has_right first later same (subst (Has later) (sym is) other))
apart_between (same ∷ first) later apart number (inr is) other = apart_between first later apart.1 number is other

module _ {X : Type 0} (key : X → ℕ) where
  -- elements that are kept have numbers of elements
  pub kept_key : (test : X → Bool) (xs : List X) (number : ℕ) → Has (map key (filter test xs)) number → Has (map key xs) number
  kept_key test xs number has =
      let made : (x : X) × Has (filter test xs) x × (key x ≡ number) = made_has key (filter test xs) number has in
      subst (Has (map key xs)) made.2 (has_made key xs made.0 (filtered_has test xs made.0 made.1).0)

  pub apart_filter : (test : X → Bool) (xs : List X) → Apart (map key xs) → Apart (map key (filter test xs))
  apart_filter test [] apart = tt
  apart_filter test (x ∷ xs) apart = by_test (test x) (apart_filter test xs apart.1) where
    by_test : (b : Bool) → Apart (map key (filter test xs)) → Apart (map key (cond b (x ∷ filter test xs) (filter test xs)))
    by_test true rest = (λ has. apart.0 (kept_key test xs (key x) has), rest)
    by_test false rest = rest

  -- the keys rise
  abbrev pub RiseBy : List X → Type 0
  RiseBy xs = AllPairs (λ one other. key one < key other) xs

  pub rise_apart : (xs : List X) → RiseBy xs → Apart (map key xs)
  rise_apart [] rise = tt
  rise_apart (x ∷ xs) rise = (
    λ has. (let made : (y : X) × Has xs y × (key y ≡ key x) = made_has key xs (key x) has in
        let less : key x < key made.0 = pairs_head (λ one other. key one < key other) x xs rise made.0 made.1 in
        omega (arith, less, made.2)),
    rise_apart xs (pairs_tail (λ one other. key one < key other) x xs rise),
  )

  pub rise_filter : (test : X → Bool) (xs : List X) → RiseBy xs → RiseBy (filter test xs)
  rise_filter test [] rise = pairs_nil (λ one other. key one < key other)
  rise_filter test (x ∷ xs) rise = by_test (test x) (rise_filter test xs (pairs_tail (λ one other. key one < key other) x xs rise)) where
    by_test : (b : Bool) → RiseBy (filter test xs) → RiseBy (cond b (x ∷ filter test xs) (filter test xs))
    by_test true rest =
        pairs_cons (λ one other. key one < key other) x (filter test xs)
        (λ y has. pairs_head (λ one other. key one < key other) x xs rise y (filtered_has test xs y has).0) rest
    by_test false rest = rest

  not_less : (o : Ordering) (a b : ℕ) → MatchOrdering o (b < a) (b ≡ a) (a < b) → a < b → is_lt o ≡ false
  not_less Less a b is less = absurd (omega (arith, is, less))
  not_less Equal a b is less = refl
  not_less Greater a b is less = refl

  rise_sorted : (xs : List X) → RiseBy xs → IsSortedBy (λ a b. is_lt (nat_cmp (key a) (key b))) xs
  rise_sorted xs rise k d low high =
      not_less (nat_cmp (key (slice_index_or xs (k + 1) d)) (key (slice_index_or xs k d))) (key (slice_index_or xs k d))
      (key (slice_index_or xs (k + 1) d))
      (ranks (key (slice_index_or xs (k + 1) d)) (key (slice_index_or xs k d))) (rise k (k + 1) d (omega arith) high)

  same_by : (o : Ordering) (a b : ℕ) → MatchOrdering o (a < b) (a ≡ b) (b < a) → o ≡ Equal → a ≡ b
  same_by Less a b is bad = cc
  same_by Equal a b is good = is
  same_by Greater a b is bad = cc

  other_by : (o : Ordering) (a b : ℕ) → MatchOrdering o (a < b) (a ≡ b) (b < a) → (o ≡ Less) ⊎ (o ≡ Greater) → a ≡ b → ⊥
  other_by Less a b is either same = omega (arith, is, same)
  other_by Equal a b is (inl bad) same = cc
  other_by Equal a b is (inr bad) same = cc
  other_by Greater a b is either same = omega (arith, is, same)

  no_test : (a b : ℕ) → (a ≡ b → ⊥) → (a == b) ≡ false
  no_test a b differ = elim (eqb_tells a b) [ inl same ↦ absurd (differ same.1) | inr other ↦ other.0 ]

  a_test : (a b : ℕ) → a ≡ b → (a == b) ≡ true
  a_test a b same = elim (eqb_tells a b) [ inl is ↦ is.0 | inr other ↦ absurd (other.1 same) ]

  -- some element of a list that has one
  some_of : (xs : List X) (place : ℕ) → place < length xs → X
  some_of [] place inside = absurd (omega arith)
  some_of (x ∷ xs) place inside = x

  -- a search by the number finds one where there is one
  pub found_by : (xs : List X) (number : ℕ) (result : Result ℕ ℕ) → RiseBy xs → IsSearchInRange result (length xs) →
      IsBinarySearchResult (λ x. nat_cmp (key x) number) xs result → is_ok result ≡ list_any (λ x. key x == number) xs
  found_by xs number (Ok place) rise inside at =
      let default : X = some_of xs place inside in
      let x : X = slice_index_or xs place default in
      let same : key x ≡ number = same_by (nat_cmp (key x) number) (key x) number (ranks (key x) number) (at default) in
      sym (any_passes (λ y. key y == number) xs x (has_contained xs x (place, inside, same_default xs place x default inside))
      (a_test (key x) number same))
  found_by xs number (Err place) rise inside at =
      let parts = at (searchable_from_sorted nat_cmp_total key xs number (rise_sorted xs rise)) in
      sym (list_any_none (λ y. key y == number) xs (λ k d within. no_test (key (slice_index_or xs k d)) number
      (other_by (nat_cmp (key (slice_index_or xs k d)) number) (key (slice_index_or xs k d)) number
      (ranks (key (slice_index_or xs k d)) number)
      (elim (cases_lt k place) [ inl before ↦ inl (parts.0 k d (omega arith) before) | inr after ↦ inr (parts.1 k d after within) ]))))

  -- what is sorted by the number, and has no number twice, rises
  pub sorted_rise : (xs ys : List X) → IsPermutation xs ys → Differ (map key xs) → IsNonDecreasingBy key ys → RiseBy ys
  sorted_rise xs ys same differ sorted i j d before within =
      let moved : Differ (map key ys) =
      AllPairs-from_IsDistinct same_number (map key ys)
      (IsDistinct-IsPermutation nat_eq flips (map key xs) (map key ys) (IsPermutation-map key xs ys same)
      (IsDistinct-from_AllPairs same_number (map key xs) differ)) in
      let apart : key (slice_index_or ys i d) ≢ key (slice_index_or ys j d) =
      pairs_unmap (λ one other. one ≢ other) ys moved i j d before within in
      let at_most : key (slice_index_or ys i d) ≤ key (slice_index_or ys j d) = sorted i j d (omega arith) within in
      omega (arith, at_most, apart) where
        same_number : (a b : ℕ) → Decides (a == b) (a ≡ b)
        same_number a b = Decides-eqb a b

        flips : (a b : ℕ) → (a == b) ≡ (b == a)
        flips a b = grind (arith, nat_tests)

        pairs_unmap : (R : ℕ → ℕ → Type 0) (zs : List X) → AllPairs R (map key zs) → AllPairs (λ one other. R (key one) (key other)) zs
        pairs_unmap R zs pairs i j d before within =
            let inside : j < length (map key zs) = rw (length-map zs key) within in
            let first = get_or-map key zs i d (key d) (omega arith) in
            let second = get_or-map key zs j d (key d) within in
            rw (sym first, sym second) (pairs i j (key d) before inside)

-- tests that agree on each element find alike
pub any_alike : {X : Type 0} (one other : X → Bool) (xs : List X) → ((x : X) → Has xs x → one x ≡ other x)
    → list_any one xs ≡ list_any other xs
any_alike one other [] same = refl
any_alike one other (x ∷ xs) same = ap (λ b. b || list_any one xs) (same x (inl refl))
    ∙ ap (λ b. other x || b) (any_alike one other xs (λ y has. same y (inr has)))

-- and keep alike
pub filter_alike : {X : Type 0} (one other : X → Bool) (xs : List X) → ((x : X) → Has xs x → one x ≡ other x)
    → filter one xs ≡ filter other xs
filter_alike one other [] same = refl
filter_alike one other (x ∷ xs) same =
    ap (λ b. cond b (x ∷ filter one xs) (filter one xs)) (same x (inl refl))
    ∙ ap (λ rest. cond (other x) (x ∷ rest) rest) (filter_alike one other xs (λ y has. same y (inr has)))
