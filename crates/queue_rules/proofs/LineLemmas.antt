-- The lines with one more row and one less, and what a line says of the order of starts.
use Rattle.std.proofs.Common.{◌≡◌, ◌<◌, ◌+◌, ◌++◌, ℕ, suc, ℤ, Bool, true, false, List, [], ◌∷◌, All, AllPairs, Contains, IsPermutation, OnOk, length, map, refl, sym, ap, subst, arith}
use Rattle.std.specs.Prelude.{Result, Ok, Err, sum_by}
use Rattle.std.proofs.lemmas.List.{get_or-map, length-map}
use Rattle.std.proofs.lemmas.List.Elements.{All-cons}
use Rattle.std.proofs.lemmas.List.Sorted.{All-permutation, Contains-permutation, IsPermutation-sym, sum_by-IsPermutation}
use Rattle.std.proofs.lemmas.List.Sums.{sum_by-cons}
use Rattle.spool_model.specs.declared.row.Row.{Row}
use Rattle.queue_rules.specs.Order.{AreInDueOrder, IsFirstBatch, IsNotAfter, is_pending, is_ready_batch, is_ready_job, places_of}
use Rattle.queue_rules.specs.declared.due.Due.{Due}
use Rattle.queue_rules.specs.declared.lines.Lines.{Lines}
use Rattle.queue_rules.specs.Dues.{AreInLine, IsLineOf, due_of_row, due_place, is_waiting_batch, is_waiting_job}
use Rattle.queue_rules.specs.TwoLines.{AreLinesOf}
use Rattle.queue_rules.proofs.DueOrderLemmas.{in_line-refl}
use Rattle.queue_rules.proofs.RowLemmas.{none_batch, none_job, not_batch, not_job, row_in_line, row_less, row_more, row_pushed, row_put, row_unlisted}

-- a row that does not wait changes neither line
pub lines_put : (prefix suffix : List Row) (row : Row) (lines : Lines) → is_pending row.state ≡ false → AreLinesOf (prefix ++ suffix) lines
    → AreLinesOf (prefix ++ row ∷ suffix) lines
lines_put prefix suffix row lines waits are = record {
  jobs = row_put is_waiting_job prefix suffix row lines.jobs (none_job row waits) are.jobs;
  batch = row_put is_waiting_batch prefix suffix row lines.batch (none_batch row waits) are.batch;
}

-- what follows from an answer of success
pub on_ok : {X E P Q : Type 0} → (result : Result X E) → OnOk result P → (P → Q) → OnOk result Q
on_ok (Ok done) is then = then is
on_ok (Err fault) is then = is

pub batch_more : (rows : List Row) (row : Row) (lines : Lines) (due : Due) (new : List Due)
    → is_waiting_batch row ≡ true → due ≡ due_of_row row
    → IsPermutation (due ∷ lines.batch) new → AreInLine new → AreLinesOf rows lines
    → AreLinesOf (rows ++ row ∷ []) (record { jobs = lines.jobs; batch = new })
batch_more rows row lines due new waits of added line are = record {
  jobs = row_pushed is_waiting_job rows row lines.jobs (not_job row waits) are.jobs;
  batch = row_more is_waiting_batch rows row lines.batch new waits
      (subst (λ (one : Due). IsPermutation (one ∷ lines.batch) new) of added) line are.batch;
}

pub job_more : (rows : List Row) (row : Row) (lines : Lines) (due : Due) (new : List Due) → is_waiting_job row ≡ true → due ≡ due_of_row row
    → IsPermutation (due ∷ lines.jobs) new → AreInLine new → AreLinesOf rows lines
    → AreLinesOf (rows ++ row ∷ []) (record { jobs = new; batch = lines.batch })
job_more rows row lines due new waits of added line are = record {
  jobs = row_more is_waiting_job rows row lines.jobs new waits
      (subst (λ (one : Due). IsPermutation (one ∷ lines.jobs) new) of added) line are.jobs;
  batch = row_pushed is_waiting_batch rows row lines.batch (not_batch row waits) are.batch;
}

pub none_more : (rows : List Row) (row : Row) (lines : Lines) → is_waiting_job row ≡ false → is_waiting_batch row ≡ false
    → AreLinesOf rows lines → AreLinesOf (rows ++ row ∷ []) lines
none_more rows row lines job batch are = record {
  jobs = row_pushed is_waiting_job rows row lines.jobs job are.jobs;
  batch = row_pushed is_waiting_batch rows row lines.batch batch are.batch;
}

-- the job of a row that waits is in its line
pub in_batch : (row : Row) (lines : Lines) (due : Due) → is_waiting_batch row ≡ true → due ≡ due_of_row row
    → (prefix : List Row) × (suffix : List Row) × AreLinesOf (prefix ++ row ∷ suffix) lines → Contains lines.batch due
in_batch row lines due waits of (prefix, suffix, are) =
    subst (Contains lines.batch) (sym of) (row_in_line is_waiting_batch prefix suffix row lines.batch waits are.batch)

pub in_jobs : (row : Row) (lines : Lines) (due : Due) → is_waiting_job row ≡ true → due ≡ due_of_row row
    → (prefix : List Row) × (suffix : List Row) × AreLinesOf (prefix ++ row ∷ suffix) lines → Contains lines.jobs due
in_jobs row lines due waits of (prefix, suffix, are) =
    subst (Contains lines.jobs) (sym of) (row_in_line is_waiting_job prefix suffix row lines.jobs waits are.jobs)

pub batch_less : (prefix suffix : List Row) (row : Row) (lines : Lines) (due : Due) (new : List Due)
    → is_waiting_batch row ≡ true → due ≡ due_of_row row
    → IsPermutation lines.batch (due ∷ new) → AreInLine new → AreLinesOf (prefix ++ row ∷ suffix) lines
    → AreLinesOf (prefix ++ suffix) (record { jobs = lines.jobs; batch = new })
batch_less prefix suffix row lines due new waits of taken line are = record {
  jobs = row_unlisted is_waiting_job prefix suffix row lines.jobs (not_job row waits) are.jobs;
  batch = row_less is_waiting_batch prefix suffix row lines.batch new waits
      (subst (λ (one : Due). IsPermutation lines.batch (one ∷ new)) of taken) line are.batch;
}

pub job_less : (prefix suffix : List Row) (row : Row) (lines : Lines) (due : Due) (new : List Due)
    → is_waiting_job row ≡ true → due ≡ due_of_row row
    → IsPermutation lines.jobs (due ∷ new) → AreInLine new → AreLinesOf (prefix ++ row ∷ suffix) lines
    → AreLinesOf (prefix ++ suffix) (record { jobs = new; batch = lines.batch })
job_less prefix suffix row lines due new waits of taken line are = record {
  jobs = row_less is_waiting_job prefix suffix row lines.jobs new waits
      (subst (λ (one : Due). IsPermutation lines.jobs (one ∷ new)) of taken) line are.jobs;
  batch = row_unlisted is_waiting_batch prefix suffix row lines.batch (not_batch row waits) are.batch;
}

pub none_less : (prefix suffix : List Row) (row : Row) (lines : Lines) → is_waiting_job row ≡ false → is_waiting_batch row ≡ false
    → AreLinesOf (prefix ++ row ∷ suffix) lines → AreLinesOf (prefix ++ suffix) lines
none_less prefix suffix row lines job batch are = record {
  jobs = row_unlisted is_waiting_job prefix suffix row lines.jobs job are.jobs;
  batch = row_unlisted is_waiting_batch prefix suffix row lines.batch batch are.batch;
}

map_pairs : (due_jobs : List Due) → AreInLine due_jobs → AllPairs IsNotAfter (map due_place due_jobs)
map_pairs due_jobs line i j d before within =
    let one : Due = record { minute = d.0; number = d.1 } in
    let inside : j < length due_jobs = subst (λ (n : ℕ). j < n) (length-map due_jobs due_place) within in
    let first = get_or-map due_place due_jobs i one d (omega (arith, before, inside)) in
    let second = get_or-map due_place due_jobs j one d inside in
    rw (first, second) (line.ordered i j one before inside)

numbers_of_places : (due_jobs : List Due)
    → map (λ (due : Due). due.number) due_jobs ≡ map (λ (place : ℕ × ℕ). place.1) (map due_place due_jobs)
numbers_of_places [] = refl
numbers_of_places (due ∷ due_jobs) = ap (λ (rest : List ℕ). due.number ∷ rest) (numbers_of_places due_jobs)

pub line_is_due_order : (rows : List Row) (now : ℤ) (due_jobs : List Due) → IsLineOf (is_ready_job now) rows due_jobs
    → AreInDueOrder rows now (map (λ due. due.number) due_jobs)
line_is_due_order rows now due_jobs is = record {
  places = map due_place due_jobs;
  same = is.same;
  ordered = map_pairs due_jobs is.in_line;
  numbered = numbers_of_places due_jobs;
}

-- the head of a line is the first
pub head_is_first : (rows : List Row) (now : ℤ) (due : Due) (later : List Due) → IsLineOf (is_ready_batch now) rows (due ∷ later)
    → IsFirstBatch rows now due.number
head_is_first rows now due later is = record {
  minute = due.minute;
  first = record {
    held = Contains-permutation (map due_place (due ∷ later)) (places_of (is_ready_batch now) rows) (due_place due)
        (IsPermutation-sym (places_of (is_ready_batch now) rows) (map due_place (due ∷ later)) is.same) (0, omega arith, refl);
    first = All-permutation (IsNotAfter (due_place due)) (map due_place (due ∷ later)) (places_of (is_ready_batch now) rows)
        (IsPermutation-sym (places_of (is_ready_batch now) rows) (map due_place (due ∷ later)) is.same)
        (All-cons (IsNotAfter (due_place due)) (due_place due) (map due_place later) (in_line-refl due) (after is.in_line));
  };
} where
  after : AreInLine (due ∷ later) → All (IsNotAfter (due_place due)) (map due_place later)
  after line k d inside = map_pairs (due ∷ later) line 0 (suc k) d (omega arith) (omega (arith, inside))

abbrev one : ℕ × ℕ → ℕ
one place = 1

-- an empty line has no places
pub no_places : (test : Row → Bool) (rows : List Row) → IsLineOf test rows [] → places_of test rows ≡ []
no_places test rows is = by_places (places_of test rows) is.same where
  by_places : (places : List (ℕ × ℕ)) → IsPermutation places [] → places ≡ []
  by_places [] same = refl
  by_places (first ∷ later) same =
      let none : 0 ≡ sum_by one (first ∷ later) = sum_by-IsPermutation one (first ∷ later) [] same in
      let some : sum_by one (first ∷ later) ≡ 1 + sum_by one later = sum_by-cons one first later in
      absurd (omega (arith, none, some))
