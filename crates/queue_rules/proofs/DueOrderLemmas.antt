-- Jobs in line: the place of one more, one less, and the first of them, those that are due.
use Rattle.std.proofs.Common.{cond, ◌≡◌, ◌⊎◌, ◌<◌, ◌≤◌, ◌*◌, ℕ, ℤ, pos, zero, suc, Bool, true, false, List, [], ◌∷◌, AllPairs, Contains, IsPermutation, length, filter, take, get_or, inl, inr, refl, sym, ap, subst, ◌∙◌, arith}
use Rattle.std.specs.Int.RustNames.{int_le}
use Rattle.std.specs.List.{AllWithin, insert, remove}
use Rattle.std.specs.List.Sorted.{IsPartitionPoint, IsPartitionedBy, IsSortedBy}
use Rattle.std.specs.Cmp.{IsStrictWeakOrder, ranks}
use Rattle.std.specs.Ordering.{MatchOrdering, is_lt, nat_cmp, ordering_then}
use Rattle.std.specs.declared.cmp.Ordering.{Ordering}
use Rattle.std.specs.declared.cmp.Ordering.TheVariants.{Less, Equal, Greater}
use Rattle.std.proofs.lemmas.Bool.{cases_lt}
use Rattle.std.proofs.lemmas.Bool.Decides.{nat_tests}
use Rattle.std.proofs.lemmas.Cmp.{nat_cmp_total, on_total, then_total}
use Rattle.std.proofs.lemmas.Int.{ints}
use Rattle.std.proofs.lemmas.List.Elements.{All-cons}
use Rattle.std.proofs.lemmas.List.Kept.{AllPairs-cons, AllPairs-filter}
use Rattle.std.proofs.lemmas.List.Quantifiers.{all_pairs_remove}
use Rattle.std.proofs.lemmas.List.Sorted.{All-permutation, IsPermutation-insert, IsPermutation-remove, ranks_by, sorted_far}
use Rattle.queue_rules.specs.Order.{IsNotAfter}
use Rattle.queue_rules.specs.declared.due.Due.{Due}
use Rattle.queue_rules.specs.Dues.{AreInLine, due_place, is_due_before, is_due_at}

-- the first comes before the second, or in the same place
abbrev pub InLine : Due → Due → Type 0
InLine first second = IsNotAfter (due_place first) (due_place second)

pub in_line-refl : (due : Due) → InLine due due
in_line-refl due = inr (refl, omega arith)

in_line-trans : (first second third : Due) → InLine first second → InLine second third → InLine first third
in_line-trans first second third (inl a) (inl b) = inl (omega (arith, a, b))
in_line-trans first second third (inl a) (inr b) = let m = b.0 in inl (omega (arith, a, m))
in_line-trans first second third (inr a) (inl b) = let m = a.0 in inl (omega (arith, m, b))
in_line-trans first second third (inr a) (inr b) = let p = a.1 in let q = b.1 in inr (a.0 ∙ b.0, omega (arith, p, q))

before_is : (first second : Due) → is_due_before first second ≡ true
    → (first.minute < second.minute) ⊎ ((first.minute ≡ second.minute) × (first.number < second.number))
before_is first second is = by_minute (cases_lt first.minute second.minute) where
  by_minute : (first.minute < second.minute) ⊎ (second.minute ≤ first.minute)
      → (first.minute < second.minute) ⊎ ((first.minute ≡ second.minute) × (first.number < second.number))
  by_minute (inl less) = inl less
  by_minute (inr least) = inr (grind (arith, nat_tests), grind (arith, nat_tests))

not_before : (first second : Due) → is_due_before first second ≡ false → InLine second first
not_before first second is = by_minute (cases_lt second.minute first.minute) where
  by_minute : (second.minute < first.minute) ⊎ (first.minute ≤ second.minute) → InLine second first
  by_minute (inl less) = inl less
  by_minute (inr least) = inr (grind (arith, nat_tests), grind (arith, nat_tests))

is_before_by : (first second : Due) → (first.minute < second.minute) ⊎ ((first.minute ≡ second.minute) × (first.number < second.number))
    → is_due_before first second ≡ true
is_before_by first second (inl less) = grind (arith, nat_tests)
is_before_by first second (inr same) = let m = same.0 in let n = same.1 in grind (arith, nat_tests)

before_in_line : (first second third : Due) → InLine first second → is_due_before second third ≡ true → is_due_before first third ≡ true
before_in_line first second third line is = by_cases line (before_is second third is) where
  by_cases : InLine first second → (second.minute < third.minute) ⊎ ((second.minute ≡ third.minute) × (second.number < third.number))
      → is_due_before first third ≡ true
  by_cases (inl a) (inl b) = is_before_by first third (inl (omega (arith, a, b)))
  by_cases (inl a) (inr b) = let m = b.0 in is_before_by first third (inl (omega (arith, a, m)))
  by_cases (inr a) (inl b) = let m = a.0 in is_before_by first third (inl (omega (arith, m, b)))
  by_cases (inr a) (inr b) = let p = a.1 in let q = b.1 in is_before_by first third (inr (a.0 ∙ b.0, omega (arith, p, q)))

not_itself : (due : Due) → is_due_before due due ≡ true → ⊥
not_itself due is = elim (before_is due due is) [ inl less ↦ omega (arith, less) | inr same ↦ let n = same.1 in omega (arith, n) ]

in_line_before : (first second : Due) → is_due_before first second ≡ true → InLine first second
in_line_before first second is =
    elim (before_is first second is) [ inl less ↦ inl less | inr same ↦ let n = same.1 in inr (same.0, omega (arith, n)) ]

-- in line, no job that comes before another comes after one that does not
pub parted_before : (due_jobs : List Due) (due : Due) → AreInLine due_jobs → IsPartitionedBy (λ other. is_due_before other due) due_jobs
parted_before due_jobs due line i j d low inside is = elim (cases_lt i j) [
  | inl less ↦ before_in_line (get_or due_jobs i d) (get_or due_jobs j d) due (line.ordered i j d less inside) is
  | inr same ↦ let at : i ≡ j = omega (arith, same, low) in subst (λ (k : ℕ). is_due_before (get_or due_jobs k d) due ≡ true) (sym at) is
]

-- nor one that is due after one that is not
pub parted_due : (due_jobs : List Due) (now : ℤ) → AreInLine due_jobs → IsPartitionedBy (is_due_at now) due_jobs
parted_due due_jobs now line i j d low inside is = elim (cases_lt i j) [
  | inl less ↦ earlier (get_or due_jobs i d) (get_or due_jobs j d) (line.ordered i j d less inside) is
  | inr same ↦ let at : i ≡ j = omega (arith, same, low) in subst (λ (k : ℕ). is_due_at now (get_or due_jobs k d) ≡ true) (sym at) is
] where
  earlier : (first second : Due) → InLine first second → is_due_at now second ≡ true → is_due_at now first ≡ true
  earlier first second (inl less) due = grind (arith, ints)
  earlier first second (inr same) due = subst (λ (m : ℕ). int_le (pos (60 * m)) now ≡ true) (sym same.0) due

-- one more between those that come before it and the others
insert_pairs : {X : Type 0} (R : X → X → Type 0) (xs : List X) (i : ℕ) (x : X) → i ≤ length xs → AllPairs R xs
    → AllWithin (λ y. R y x) xs 0 i → AllWithin (λ y. R x y) xs i (length xs) → AllPairs R (insert xs i x)
insert_pairs R xs zero x within pairs before after = AllPairs-cons R x xs (λ k d inside. after k d (omega arith) inside) pairs
insert_pairs R [] (suc i) x within pairs before after = absurd (omega (arith, within))
insert_pairs R (y ∷ ys) (suc i) x within pairs before after =
    AllPairs-cons R y (insert ys i x)
    (All-permutation (R y) (x ∷ ys) (insert ys i x) (IsPermutation-insert ys i x)
    (All-cons (R y) x ys (before zero x (omega arith) (omega arith))
    (λ k d inside. pairs zero (suc k) d (omega arith) (omega (arith, inside)))))
    (insert_pairs R ys i x (omega (arith, within))
    (λ j k d low inside. pairs (suc j) (suc k) d (omega (arith, low)) (omega (arith, inside)))
    (λ k d low inside. before (suc k) d (omega arith) (omega (arith, inside)))
    (λ k d low inside. after (suc k) d (omega (arith, low)) (omega (arith, inside))))

pub still_in_line : (due_jobs : List Due) (due : Due) (place : ℕ) → AreInLine due_jobs → place ≤ length due_jobs
    → IsPartitionPoint (λ other. is_due_before other due ≡ true) (λ other. is_due_before other due ≡ false) due_jobs place
    → AreInLine (insert due_jobs place due)
still_in_line due_jobs due place line within point = record {
  ordered = insert_pairs InLine due_jobs place due within line.ordered
      (λ k d low inside. in_line_before (get_or due_jobs k d) due (point.0 k d low inside))
      (λ k d low inside. not_before (get_or due_jobs k d) due (point.1 k d low inside));
}

pub in_line_without : (due_jobs : List Due) (place : ℕ) → place < length due_jobs → AreInLine due_jobs → AreInLine (remove due_jobs place)
in_line_without due_jobs place within line = record { ordered = all_pairs_remove InLine due_jobs place within line.ordered }

-- two jobs of which neither comes before the other are the same
one_place : (first second : Due) → InLine first second → InLine second first → first ≡ second
one_place first second (inl a) (inl b) = absurd (omega (arith, a, b))
one_place first second (inl a) (inr b) = let m = b.0 in absurd (omega (arith, a, m))
one_place first second (inr a) (inl b) = let m = a.0 in absurd (omega (arith, m, b))
one_place first second (inr a) (inr b) =
    let p = a.1 in let q = b.1 in
    let n : first.number ≡ second.number = omega (arith, p, q) in
    ap (λ (minute : ℕ). record { minute = minute; number = first.number }) a.0
    ∙ ap (λ (number : ℕ). record { minute = second.minute; number = number }) n

-- a job that is in the line is in its place
pub found_in_line : (due_jobs : List Due) (due : Due) (place : ℕ) → AreInLine due_jobs
    → IsPartitionPoint (λ other. is_due_before other due ≡ true) (λ other. is_due_before other due ≡ false) due_jobs place
    → Contains due_jobs due → (place < length due_jobs) × (due ≡ get_or due_jobs place due)
found_in_line due_jobs due place line point (k, inside, here) = by_place (cases_lt k place) where
  by_place : (k < place) ⊎ (place ≤ k) → (place < length due_jobs) × (due ≡ get_or due_jobs place due)
  by_place (inl less) =
      absurd (not_itself due (subst (λ (one : Due). is_due_before one due ≡ true) here (point.0 k due (omega arith) less)))
  by_place (inr least) =
      let within : place < length due_jobs = omega (arith, least, inside) in
      let after : InLine due (get_or due_jobs place due) =
      not_before (get_or due_jobs place due) due (point.1 place due (omega arith) within) in
      let before : InLine (get_or due_jobs place due) due = subst (InLine (get_or due_jobs place due)) here (up_to (cases_lt place k)) in
      (within, one_place due (get_or due_jobs place due) after before) where
        up_to : (place < k) ⊎ (k ≤ place) → InLine (get_or due_jobs place due) (get_or due_jobs k due)
        up_to (inl less) = line.ordered place k due less inside
        up_to (inr most) =
            let at : place ≡ k = omega (arith, least, most) in
            subst (λ (n : ℕ). InLine (get_or due_jobs place due) (get_or due_jobs n due)) at (in_line-refl (get_or due_jobs place due))

-- one more in its place, as a search in a slice of the line gives it
pub added_in_line : (due_jobs slice new : List Due) (due : Due) (place : ℕ) → slice ≡ due_jobs → AreInLine due_jobs → place ≤ length slice
    → IsPartitionPoint (λ other. is_due_before other due ≡ true) (λ other. is_due_before other due ≡ false) slice place
    → new ≡ insert due_jobs place due → AreInLine new
added_in_line due_jobs slice new due place same line within point put =
    subst AreInLine (sym put) (still_in_line due_jobs due place line (subst (λ (all : List Due). place ≤ length all) same within)
    (subst (λ (all : List Due).
    IsPartitionPoint (λ other. is_due_before other due ≡ true) (λ other. is_due_before other due ≡ false) all place) same point))

pub added_one : (due_jobs old new : List Due) (due : Due) (place : ℕ) → due_jobs ≡ old → new ≡ insert due_jobs place due
    → IsPermutation (due ∷ old) new
added_one due_jobs old new due place same put =
    subst (λ (all : List Due). IsPermutation (due ∷ all) new) same
    (subst (IsPermutation (due ∷ due_jobs)) (sym put) (IsPermutation-insert due_jobs place due))

-- and one that exists, out of its place
pub found_at : (due_jobs slice : List Due) (due : Due) (place : ℕ) → slice ≡ due_jobs → AreInLine due_jobs
    → IsPartitionPoint (λ other. is_due_before other due ≡ true) (λ other. is_due_before other due ≡ false) slice place
    → Contains due_jobs due → (place < length due_jobs) × (due ≡ get_or due_jobs place due)
found_at due_jobs slice due place same line point held =
    found_in_line due_jobs due place line
    (subst (λ (all : List Due).
    IsPartitionPoint (λ other. is_due_before other due ≡ true) (λ other. is_due_before other due ≡ false) all place) same point) held

pub taken_one : (due_jobs old new : List Due) (due : Due) (place : ℕ) → due_jobs ≡ old
    → (place < length due_jobs) × (due ≡ get_or due_jobs place due) → new ≡ remove due_jobs place → IsPermutation old (due ∷ new)
taken_one due_jobs old new due place same at taken =
    subst (λ (all : List Due). IsPermutation all (due ∷ new)) same
    (subst (λ (rest : List Due). IsPermutation due_jobs (due ∷ rest)) (sym taken) (IsPermutation-remove due_jobs place due at.0 at.1))

pub taken_in_line : (due_jobs new : List Due) (place : ℕ) → place < length due_jobs → AreInLine due_jobs
    → new ≡ remove due_jobs place → AreInLine new
taken_in_line due_jobs new place within line taken = subst AreInLine (sym taken) (in_line_without due_jobs place within line)

-- those up to the place where a test begins to fail are those that pass it
pub prefix_passes : {X : Type 0} (test : X → Bool) (xs : List X) (i : ℕ) → i ≤ length xs
    → IsPartitionPoint (λ x. test x ≡ true) (λ x. test x ≡ false) xs i → take i xs ≡ filter test xs
prefix_passes test [] zero within point = refl
prefix_passes test [] (suc i) within point = absurd (omega (arith, within))
prefix_passes {X} test (x ∷ xs) zero within point =
    prefix_passes test xs zero (omega arith)
    ((λ k d low inside. absurd (omega (arith, inside))), (λ k d low inside. point.1 (suc k) d (omega arith) (omega (arith, inside))))
    ∙ ap (λ (b : Bool). cond b (x ∷ filter test xs) (filter test xs)) (sym (point.1 zero x (omega arith) (omega arith)))
prefix_passes {X} test (x ∷ xs) (suc i) within point =
    ap (λ (rest : List X). x ∷ rest) (prefix_passes test xs i (omega (arith, within)) (
      (λ k d low inside. point.0 (suc k) d (omega arith) (omega (arith, inside))),
      (λ k d low inside. point.1 (suc k) d (omega (arith, low)) (omega (arith, inside))),
    ))
    ∙ ap (λ (b : Bool). cond b (x ∷ filter test xs) (filter test xs)) (sym (point.0 zero x (omega arith) (omega arith)))

pub prefix_is_due : (due_jobs slice again old : List Due) (now : ℤ) (count : ℕ) → slice ≡ due_jobs → again ≡ due_jobs
    → due_jobs ≡ old → count ≤ length slice
    → IsPartitionPoint (λ due. is_due_at now due ≡ true) (λ due. is_due_at now due ≡ false) slice count
    → take count again ≡ filter (is_due_at now) old
prefix_is_due due_jobs slice again old now count same still view within point =
    ap (take count) (still ∙ sym same) ∙ prefix_passes (is_due_at now) slice count within point ∙ ap (filter (is_due_at now)) (same ∙ view)

-- how two jobs compare: by minute, then number
abbrev pub due_cmp : Due → Due → Ordering
due_cmp first second = ordering_then (nat_cmp first.minute second.minute) (nat_cmp first.number second.number)

due_ranks : IsStrictWeakOrder (λ (x : Due) (y : Due). is_lt (due_cmp x y))
due_ranks = ranks_by (then_total (on_total (λ (t : ℕ × ℕ). t.0) nat_cmp_total) (on_total (λ (t : ℕ × ℕ). t.1) nat_cmp_total)) due_place

abbrev Compared : Ordering → ℕ → ℕ → Type 0
Compared answer x y = MatchOrdering answer (x < y) (x ≡ y) (y < x)

in_line_by : (first second : Due) (minutes numbers : Ordering) → Compared minutes second.minute first.minute
    → Compared numbers second.number first.number
    → is_lt (ordering_then minutes numbers) ≡ false → InLine first second
in_line_by first second Less numbers minute number kept = absurd (cc)
in_line_by first second Equal Less minute number kept = absurd (cc)
in_line_by first second Equal Equal minute number kept = inr (sym minute, omega (arith, number))
in_line_by first second Equal Greater minute number kept = inr (sym minute, omega (arith, number))
in_line_by first second Greater numbers minute number kept = inl minute

-- sorted jobs are in line
pub sorted_in_line : (due_jobs : List Due) → IsSortedBy (λ (x : Due) (y : Due). is_lt (due_cmp x y)) due_jobs → AreInLine due_jobs
sorted_in_line due_jobs sorted = record { ordered = ordered_at } where
  ordered_at : AllPairs InLine due_jobs
  ordered_at i j d before within =
      let first : Due = get_or due_jobs i d in
      let second : Due = get_or due_jobs j d in
      in_line_by first second (nat_cmp second.minute first.minute) (nat_cmp second.number first.number)
      (ranks second.minute first.minute) (ranks second.number first.number)
      (sorted_far (λ (x : Due) (y : Due). is_lt (due_cmp x y)) due_ranks due_jobs sorted i j d (omega arith) within)

-- what passes a test stays in line
pub kept_in_line : (test : Due → Bool) (due_jobs : List Due) → AreInLine due_jobs → AreInLine (filter test due_jobs)
kept_in_line test due_jobs line = record { ordered = AllPairs-filter InLine test due_jobs line.ordered }
