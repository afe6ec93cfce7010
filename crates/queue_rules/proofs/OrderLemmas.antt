-- Places in order.
use Rattle.std.proofs.Common.{◌≡◌, ◌⊎◌, ℕ, ◌<◌, false, List, [], ◌∷◌, IfSome, IfNone, AllPairs, Contains, fold, inl, inr, arith, refl, sym, subst, lit<}
use Rattle.std.proofs.lemmas.Cmp.{then_total, on_total, nat_cmp_total}
use Rattle.std.proofs.lemmas.List.Elements.{All-nil, All-cons, All-head, All-tail, All-contains, All-contains_itself}
use Rattle.std.proofs.lemmas.List.Sorted.{sorted_far, ranks_by}
use Rattle.std.specs.Cmp.{ranks, IsStrictWeakOrder}
use Rattle.std.specs.List.{reduce}
use Rattle.std.specs.List.Sorted.{IsSorted}
use Rattle.std.specs.Ordering.{nat_cmp, ordering_then, min_by_ordering, MatchOrdering, is_lt}
use Rattle.std.specs.declared.cmp.Ordering.{Ordering}
use Rattle.std.specs.declared.cmp.Ordering.TheVariants.{Less, Equal, Greater}
use Rattle.queue_rules.specs.Order.{IsNotAfter, IsFirstOf}

-- how two places compare: by minute, then number
abbrev pub place_cmp : ℕ × ℕ → ℕ × ℕ → Ordering
place_cmp first second = ordering_then (nat_cmp first.0 second.0) (nat_cmp first.1 second.1)

-- the earlier of two places
abbrev pub earlier_of : ℕ × ℕ → ℕ × ℕ → ℕ × ℕ
earlier_of first second = min_by_ordering (place_cmp first second) first second

-- what two numbers compared are to one another
abbrev Compared : Ordering → ℕ → ℕ → Type 0
Compared answer x y = MatchOrdering answer (x < y) (x ≡ y) (y < x)

-- a place that the second is not before, by the answers for minutes and numbers
not_after-by : (first second : ℕ × ℕ) (minutes numbers : Ordering) → Compared minutes second.0 first.0 → Compared numbers second.1 first.1
    → is_lt (ordering_then minutes numbers) ≡ false → IsNotAfter first second
not_after-by first second Less numbers minute number kept = cc
not_after-by first second Equal Less minute number kept = cc
not_after-by first second Equal Equal minute number kept = inr (sym minute, omega arith)
not_after-by first second Equal Greater minute number kept = inr (sym minute, omega arith)
not_after-by first second Greater numbers minute number kept = inl minute

not_after : (first second : ℕ × ℕ) → is_lt (place_cmp second first) ≡ false → IsNotAfter first second
not_after first second kept =
    not_after-by first second (nat_cmp second.0 first.0) (nat_cmp second.1 first.1) (ranks second.0 first.0) (ranks second.1 first.1) kept

-- places are ranked by their comparison
place_ranks : IsStrictWeakOrder (λ (x : ℕ × ℕ) (y : ℕ × ℕ). is_lt (place_cmp x y))
place_ranks =
    ranks_by (then_total (on_total (λ (t : ℕ × ℕ). t.0) nat_cmp_total) (on_total (λ (t : ℕ × ℕ). t.1) nat_cmp_total)) (λ place. place)

-- sorted places are in order
pub in_order : (places : List (ℕ × ℕ)) → IsSorted place_cmp places → AllPairs IsNotAfter places
in_order places sorted i j d before within =
    not_after _ _ (sorted_far (λ (x : ℕ × ℕ) (y : ℕ × ℕ). is_lt (place_cmp x y)) place_ranks places sorted i j d (omega arith) within)

not_after-refl : (place : ℕ × ℕ) → IsNotAfter place place
not_after-refl place = inr (refl, omega arith)

not_after-trans : (first second third : ℕ × ℕ) → IsNotAfter first second → IsNotAfter second third → IsNotAfter first third
not_after-trans first second third (inl a) (inl b) = inl (omega arith)
not_after-trans first second third (inl a) (inr b) = inl (omega arith)
not_after-trans first second third (inr a) (inl b) = inl (omega arith)
not_after-trans first second third (inr a) (inr b) = inr (omega arith, omega arith)

-- one of two places, and it is not after the other
abbrev IsEarlier : ℕ × ℕ → ℕ × ℕ → ℕ × ℕ → Type 0
IsEarlier first second place = ((place ≡ first) × IsNotAfter first second) ⊎ ((place ≡ second) × IsNotAfter second first)

earlier-by : (first second : ℕ × ℕ) (minutes numbers : Ordering) → Compared minutes first.0 second.0 → Compared numbers first.1 second.1
    → IsEarlier first second (min_by_ordering (ordering_then minutes numbers) first second)
earlier-by first second Less numbers minute number = inl (refl, inl minute)
earlier-by first second Equal Less minute number = inl (refl, inr (minute, omega arith))
earlier-by first second Equal Equal minute number = inl (refl, inr (minute, omega arith))
earlier-by first second Equal Greater minute number = inr (refl, inr (sym minute, omega arith))
earlier-by first second Greater numbers minute number = inr (refl, inl minute)

-- what is first among the earlier of two places and others is first among all of them
first-more : (first second kept least : ℕ × ℕ) (others : List (ℕ × ℕ)) → IsEarlier first second kept → IsFirstOf (kept ∷ others) least
    → IsFirstOf (first ∷ second ∷ others) least
first-more first second kept least others (inl earlier) found =
    let all = first ∷ second ∷ others in
    let itself = All-contains_itself all in
    let after = All-tail (Contains all) first (second ∷ others) itself in
    let held = subst (λ (place : ℕ × ℕ). Contains all place) (sym earlier.0) (All-head (Contains all) first (second ∷ others) itself) in
    let here = subst (λ (place : ℕ × ℕ). IsNotAfter least place) earlier.0 (All-head (IsNotAfter least) kept others found.first) in
    record {
      held = All-contains (Contains all) (kept ∷ others) least
          (All-cons (Contains all) kept others held (All-tail (Contains all) second others after)) found.held;
      first = All-cons (IsNotAfter least) first (second ∷ others) here
          (All-cons (IsNotAfter least) second others (not_after-trans least first second here earlier.1)
          (All-tail (IsNotAfter least) kept others found.first));
    }
first-more first second kept least others (inr earlier) found =
    let all = first ∷ second ∷ others in
    let itself = All-contains_itself all in
    let after = All-tail (Contains all) first (second ∷ others) itself in
    let held = subst (λ (place : ℕ × ℕ). Contains all place) (sym earlier.0) (All-head (Contains all) second others after) in
    let here = subst (λ (place : ℕ × ℕ). IsNotAfter least place) earlier.0 (All-head (IsNotAfter least) kept others found.first) in
    record {
      held = All-contains (Contains all) (kept ∷ others) least
          (All-cons (Contains all) kept others held (All-tail (Contains all) second others after)) found.held;
      first = All-cons (IsNotAfter least) first (second ∷ others) (not_after-trans least second first here earlier.1)
          (All-cons (IsNotAfter least) second others here (All-tail (IsNotAfter least) kept others found.first));
    }

first-fold : (first : ℕ × ℕ) (others : List (ℕ × ℕ)) → IsFirstOf (first ∷ others) (fold earlier_of first others)
first-fold first [] = record {
  held = (0, lit< tt, refl);
  first = All-cons (IsNotAfter first) first [] (not_after-refl first) (All-nil (IsNotAfter first));
}
first-fold first (second ∷ others) =
    first-more first second (earlier_of first second) (fold earlier_of (earlier_of first second) others) others
    (earlier-by first second (nat_cmp first.0 second.0) (nat_cmp first.1 second.1) (ranks first.0 second.0) (ranks first.1 second.1))
    (first-fold (earlier_of first second) others)

-- the earliest of some places is the first of them
pub first-reduce : (places : List (ℕ × ℕ)) → IfSome (reduce earlier_of places) (IsFirstOf places)
first-reduce [] = tt
first-reduce (first ∷ others) = first-fold first others

-- there is an earliest unless there are none
pub none-reduce : (places : List (ℕ × ℕ)) → IfNone (reduce earlier_of places) (places ≡ [])
none-reduce [] = refl
none-reduce (first ∷ others) = tt
