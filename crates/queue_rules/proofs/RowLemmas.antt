-- The line of rows: with one more row, with one less, and its first ones.
use Rattle.std.proofs.Common.{◌≡◌, ◌*◌, ◌&&◌, ◌++◌, ◌<◌, ℕ, ℤ, pos, Bool, true, false, cond, not, List, [], ◌∷◌, Contains, IsPermutation, length, map, filter, get_or, refl, sym, ap, subst, ◌∙◌, arith}
use Rattle.std.specs.Int.RustNames.{int_le}
use Rattle.std.proofs.lemmas.List.{append-nil, get_or-map, length-map, map-append}
use Rattle.std.proofs.lemmas.List.Elements.{filter-append}
use Rattle.std.proofs.lemmas.List.Sorted.{Contains-permutation, IsPermutation-map, IsPermutation-middle, IsPermutation-sym, IsPermutation-trans, IsPermutation-cons}
use Rattle.spool_model.specs.declared.row.Row.{Row}
use Rattle.spool_model.specs.JobTable.{is_batch_queue}
use Rattle.queue_rules.specs.Order.{is_pending, is_ready_batch, is_ready_job, place_in_queue, places_of}
use Rattle.queue_rules.specs.declared.due.Due.{Due}
use Rattle.queue_rules.specs.Dues.{AreInLine, IsLineOf, due_of_row, due_place, is_due_at, is_waiting_batch, is_waiting_job}
use Rattle.queue_rules.proofs.CountedLemmas.{cancel, kept_permutation}
use Rattle.queue_rules.proofs.DueOrderLemmas.{kept_in_line}

-- the places of a prefix, a row and a suffix
middle_places : (test : Row → Bool) (prefix suffix : List Row) (row : Row) →
    places_of test (prefix ++ row ∷ suffix)
    ≡ places_of test prefix ++ map place_in_queue (cond (test row) (row ∷ filter test suffix) (filter test suffix))
middle_places test prefix suffix row = ap (map place_in_queue) (filter-append test prefix (row ∷ suffix))
    ∙ map-append place_in_queue (filter test prefix) (filter test (row ∷ suffix))

both_places : (test : Row → Bool) (prefix suffix : List Row)
    → places_of test (prefix ++ suffix) ≡ places_of test prefix ++ places_of test suffix
both_places test prefix suffix = ap (map place_in_queue) (filter-append test prefix suffix)
    ∙ map-append place_in_queue (filter test prefix) (filter test suffix)

-- a row that fails the test has no place
pub unlisted : (test : Row → Bool) (prefix suffix : List Row) (row : Row) → test row ≡ false
    → places_of test (prefix ++ row ∷ suffix) ≡ places_of test (prefix ++ suffix)
unlisted test prefix suffix row fails =
    middle_places test prefix suffix row
    ∙ ap (λ (b : Bool). places_of test prefix ++ map place_in_queue (cond b (row ∷ filter test suffix) (filter test suffix))) fails
    ∙ sym (both_places test prefix suffix)

-- one that passes it has one
listed : (test : Row → Bool) (prefix suffix : List Row) (row : Row) → test row ≡ true
    → IsPermutation (places_of test (prefix ++ row ∷ suffix)) (place_in_queue row ∷ places_of test (prefix ++ suffix))
listed test prefix suffix row passes =
    let whole : places_of test (prefix ++ row ∷ suffix) ≡ places_of test prefix ++ place_in_queue row ∷ places_of test suffix =
    middle_places test prefix suffix row
    ∙ ap (λ (b : Bool). places_of test prefix ++ map place_in_queue (cond b (row ∷ filter test suffix) (filter test suffix))) passes in
    subst (λ (places : List (ℕ × ℕ)). IsPermutation places (place_in_queue row ∷ places_of test (prefix ++ suffix))) (sym whole)
    (subst (λ (places : List (ℕ × ℕ)). IsPermutation (places_of test prefix ++ place_in_queue row ∷ places_of test suffix)
    (place_in_queue row ∷ places)) (sym (both_places test prefix suffix))
    (IsPermutation-middle (places_of test prefix) (place_in_queue row) (places_of test suffix)))

-- a row that passes more, and one less
pub row_more : (test : Row → Bool) (rows : List Row) (row : Row) (old new : List Due) → test row ≡ true
    → IsPermutation (due_of_row row ∷ old) new → AreInLine new
    → IsLineOf test rows old → IsLineOf test (rows ++ row ∷ []) new
row_more test rows row old new passes added line is = record {
  same = IsPermutation-trans _ _ _ (listed test rows [] row passes)
      (IsPermutation-trans (place_in_queue row ∷ places_of test (rows ++ [])) (place_in_queue row ∷ map due_place old) (map due_place new)
      (IsPermutation-cons (place_in_queue row) _ _
      (subst (λ (all : List Row). IsPermutation (places_of test all) (map due_place old)) (sym (append-nil rows)) is.same))
      (IsPermutation-map due_place (due_of_row row ∷ old) new added));
  in_line = line;
}

pub row_less : (test : Row → Bool) (prefix suffix : List Row) (row : Row) (old new : List Due) → test row ≡ true
    → IsPermutation old (due_of_row row ∷ new) → AreInLine new
    → IsLineOf test (prefix ++ row ∷ suffix) old → IsLineOf test (prefix ++ suffix) new
row_less test prefix suffix row old new passes taken line is = record {
  same = cancel (place_in_queue row) (places_of test (prefix ++ suffix)) (map due_place new)
      (IsPermutation-trans _ _ _ (IsPermutation-sym _ _ (listed test prefix suffix row passes))
      (IsPermutation-trans _ _ _ is.same (IsPermutation-map due_place old (due_of_row row ∷ new) taken)));
  in_line = line;
}

-- a row that fails changes nothing
pub row_unlisted : (test : Row → Bool) (prefix suffix : List Row) (row : Row) (due_jobs : List Due) → test row ≡ false
    → IsLineOf test (prefix ++ row ∷ suffix) due_jobs → IsLineOf test (prefix ++ suffix) due_jobs
row_unlisted test prefix suffix row due_jobs fails is = record {
  same = subst (λ (places : List (ℕ × ℕ)). IsPermutation places (map due_place due_jobs)) (unlisted test prefix suffix row fails) is.same;
  in_line = is.in_line;
}

pub row_put : (test : Row → Bool) (prefix suffix : List Row) (row : Row) (due_jobs : List Due) → test row ≡ false
    → IsLineOf test (prefix ++ suffix) due_jobs → IsLineOf test (prefix ++ row ∷ suffix) due_jobs
row_put test prefix suffix row due_jobs fails is = record {
  same = subst (λ (places : List (ℕ × ℕ)). IsPermutation places (map due_place due_jobs))
      (sym (unlisted test prefix suffix row fails)) is.same;
  in_line = is.in_line;
}

pub row_pushed : (test : Row → Bool) (rows : List Row) (row : Row) (due_jobs : List Due) → test row ≡ false → IsLineOf test rows due_jobs
    → IsLineOf test (rows ++ row ∷ []) due_jobs
row_pushed test rows row due_jobs fails is =
    row_put test rows [] row due_jobs fails (subst (λ (all : List Row). IsLineOf test all due_jobs) (sym (append-nil rows)) is)

-- a place among those of jobs is that of one of them
of_place : (due_jobs : List Due) (row : Row) → Contains (map due_place due_jobs) (place_in_queue row) → Contains due_jobs (due_of_row row)
of_place due_jobs row (k, inside, here) =
    let within : k < length due_jobs = subst (λ (n : ℕ). k < n) (length-map due_jobs due_place) inside in
    let one : Due = get_or due_jobs k (due_of_row row) in
    let place : due_place one ≡ place_in_queue row =
    sym (get_or-map due_place due_jobs k (due_of_row row) (place_in_queue row) within) ∙ here in
    (k, within, ap (λ (p : ℕ × ℕ). record { minute = p.0; number = p.1 }) place)

-- a row that passes is in the line
pub row_in_line : (test : Row → Bool) (prefix suffix : List Row) (row : Row) (due_jobs : List Due) → test row ≡ true
    → IsLineOf test (prefix ++ row ∷ suffix) due_jobs → Contains due_jobs (due_of_row row)
row_in_line test prefix suffix row due_jobs passes is =
    of_place due_jobs row
    (Contains-permutation (places_of test (prefix ++ row ∷ suffix)) (map due_place due_jobs) (place_in_queue row) is.same
    (Contains-permutation (place_in_queue row ∷ places_of test (prefix ++ suffix))
    (places_of test (prefix ++ row ∷ suffix)) (place_in_queue row)
    (IsPermutation-sym _ _ (listed test prefix suffix row passes)) (0, omega arith, refl)))

-- a row of one kind is not of the other
pub not_job : (row : Row) → is_waiting_batch row ≡ true → is_waiting_job row ≡ false
not_job row = by_tests (is_pending row.state) (is_batch_queue row.queue) where
  by_tests : (p b : Bool) → (p && b) ≡ true → (p && not b) ≡ false
  by_tests true true is = refl
  by_tests true false is = cc
  by_tests false b is = refl

pub not_batch : (row : Row) → is_waiting_job row ≡ true → is_waiting_batch row ≡ false
not_batch row = by_tests (is_pending row.state) (is_batch_queue row.queue) where
  by_tests : (p b : Bool) → (p && not b) ≡ true → (p && b) ≡ false
  by_tests true true is = cc
  by_tests true false is = refl
  by_tests false b is = refl

-- a row that does not wait is of none
pub none_job : (row : Row) → is_pending row.state ≡ false → is_waiting_job row ≡ false
none_job row is = ap (λ (b : Bool). b && not (is_batch_queue row.queue)) is

pub none_batch : (row : Row) → is_pending row.state ≡ false → is_waiting_batch row ≡ false
none_batch row is = ap (λ (b : Bool). b && is_batch_queue row.queue) is

-- the place's minute has begun
abbrev has_begun : ℤ → ℕ × ℕ → Bool
has_begun now place = int_le (pos (60 * place.0)) now

-- a test and one that requests the minute too
abbrev Narrows : ℤ → (Row → Bool) → (Row → Bool) → Type 0
Narrows now wide narrow = (row : Row) → narrow row ≡ (wide row && has_begun now (place_in_queue row))

begun_places : (now : ℤ) (wide narrow : Row → Bool) → Narrows now wide narrow → (rows : List Row)
    → filter (has_begun now) (places_of wide rows) ≡ places_of narrow rows
begun_places now wide narrow narrows [] = refl
begun_places now wide narrow narrows (row ∷ rows) =
    by_tests (begun_places now wide narrow narrows rows) (wide row) (has_begun now (place_in_queue row)) refl refl
  where
    by_tests : filter (has_begun now) (places_of wide rows) ≡ places_of narrow rows → (w h : Bool) → wide row ≡ w
        → has_begun now (place_in_queue row) ≡ h → filter (has_begun now) (places_of wide (row ∷ rows)) ≡ places_of narrow (row ∷ rows)
    by_tests again w h is_wide has =
        ap (λ (b : Bool). filter (has_begun now) (map place_in_queue (cond b (row ∷ filter wide rows) (filter wide rows)))) is_wide
        ∙ by_cases again w h has
        ∙ ap (λ (b : Bool). map place_in_queue (cond b (row ∷ filter narrow rows) (filter narrow rows)))
        (ap (λ (b : Bool). w && b) (sym has) ∙ ap (λ (b : Bool). b && has_begun now (place_in_queue row)) (sym is_wide)
        ∙ sym (narrows row)) where
          by_cases : filter (has_begun now) (places_of wide rows) ≡ places_of narrow rows → (w h : Bool)
              → has_begun now (place_in_queue row) ≡ h →
              filter (has_begun now) (map place_in_queue (cond w (row ∷ filter wide rows) (filter wide rows)))
              ≡ map place_in_queue (cond (w && h) (row ∷ filter narrow rows) (filter narrow rows))
          by_cases again true true has = ap (λ (b : Bool).
              cond b (place_in_queue row ∷ filter (has_begun now) (places_of wide rows)) (filter (has_begun now) (places_of wide rows))) has
              ∙ ap (λ (rest : List (ℕ × ℕ)). place_in_queue row ∷ rest) again
          by_cases again true false has = ap (λ (b : Bool).
              cond b (place_in_queue row ∷ filter (has_begun now) (places_of wide rows)) (filter (has_begun now) (places_of wide rows))) has
              ∙ again
          by_cases again false h has = again

begun_dues : (now : ℤ) (due_jobs : List Due)
    → filter (has_begun now) (map due_place due_jobs) ≡ map due_place (filter (is_due_at now) due_jobs)
begun_dues now [] = refl
begun_dues now (due ∷ due_jobs) = by_test (begun_dues now due_jobs) (is_due_at now due) where
  by_test : filter (has_begun now) (map due_place due_jobs) ≡ map due_place (filter (is_due_at now) due_jobs) → (b : Bool)
      → cond b (due_place due ∷ filter (has_begun now) (map due_place due_jobs)) (filter (has_begun now) (map due_place due_jobs))
      ≡ map due_place (cond b (due ∷ filter (is_due_at now) due_jobs) (filter (is_due_at now) due_jobs))
  by_test again true = ap (λ (rest : List (ℕ × ℕ)). due_place due ∷ rest) again
  by_test again false = again

-- the head of a line is the line of the rows whose minute has begun
prefix_of_line : (now : ℤ) (wide narrow : Row → Bool) → Narrows now wide narrow → (rows : List Row) (due_jobs : List Due)
    → IsLineOf wide rows due_jobs → IsLineOf narrow rows (filter (is_due_at now) due_jobs)
prefix_of_line now wide narrow narrows rows due_jobs is = record {
  same = subst (λ (places : List (ℕ × ℕ)). IsPermutation places (map due_place (filter (is_due_at now) due_jobs)))
      (begun_places now wide narrow narrows rows)
      (subst (IsPermutation (filter (has_begun now) (places_of wide rows))) (begun_dues now due_jobs)
      (kept_permutation (has_begun now) (places_of wide rows) (map due_place due_jobs) is.same));
  in_line = kept_in_line (is_due_at now) due_jobs is.in_line;
}

pub prefix_of_jobs : (now : ℤ) (rows : List Row) (due_jobs : List Due) → IsLineOf is_waiting_job rows due_jobs
    → IsLineOf (is_ready_job now) rows (filter (is_due_at now) due_jobs)
prefix_of_jobs now = prefix_of_line now is_waiting_job (is_ready_job now)
    (λ row. by (is_pending row.state) (has_begun now (place_in_queue row)) (not (is_batch_queue row.queue)))
  where
    by : (p q r : Bool) → ((p && q) && r) ≡ ((p && r) && q)
    by true true true = refl
    by true true false = refl
    by true false true = refl
    by true false false = refl
    by false q r = refl

pub prefix_of_batch : (now : ℤ) (rows : List Row) (due_jobs : List Due) → IsLineOf is_waiting_batch rows due_jobs
    → IsLineOf (is_ready_batch now) rows (filter (is_due_at now) due_jobs)
prefix_of_batch now = prefix_of_line now is_waiting_batch (is_ready_batch now)
    (λ row. by (is_pending row.state) (has_begun now (place_in_queue row)) (is_batch_queue row.queue))
  where
    by : (p q r : Bool) → ((p && q) && r) ≡ ((p && r) && q)
    by true true true = refl
    by true true false = refl
    by true false true = refl
    by true false false = refl
    by false q r = refl

due_places : (rows : List Row) → map place_in_queue rows ≡ map due_place (map due_of_row rows)
due_places [] = refl
due_places (row ∷ rows) = ap (λ (rest : List (ℕ × ℕ)). place_in_queue row ∷ rest) (due_places rows)

-- the rows that pass, brought in line
pub line_of_rows : (test : Row → Bool) (rows : List Row) (due_jobs line : List Due) → due_jobs ≡ map due_of_row (filter test rows)
    → IsPermutation due_jobs line → AreInLine line → IsLineOf test rows line
line_of_rows test rows due_jobs line are same in_line = record {
  same = subst (λ (places : List (ℕ × ℕ)). IsPermutation places (map due_place line)) (sym (due_places (filter test rows)))
      (IsPermutation-map due_place (map due_of_row (filter test rows)) line (subst (λ (all : List Due). IsPermutation all line) are same));
  in_line = in_line;
}
