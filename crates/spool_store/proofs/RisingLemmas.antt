-- Rows whose numbers rise, one more at a time.
use Rattle.std.proofs.Common.{◌≡◌, ℕ, ◌+◌, ◌<◌, ◌≤◌, Bool, true, false, cond, List, Some, None, [], ◌∷◌, ◌++◌, length, get_or, map, take, sym, ap, subst, ◌∙◌, refl, arith}
use Rattle.std.specs.Prelude.{Ok, is_some}
use Rattle.std.specs.declared.cmp.Ordering.TheVariants.{Less}
use Rattle.std.specs.BTreeMap.{is_at}
use Rattle.std.specs.Cmp.{nat_cmp_is}
use Rattle.std.specs.List.{AllByRecursion}
use Rattle.std.specs.Ordering.{nat_cmp}
use Rattle.std.proofs.lemmas.List.{map-append}
use Rattle.std.proofs.lemmas.Map.Keys.{sorted_head, sorted_tail}
use Rattle.spool_model.specs.declared.row.Row.{Row}
use Rattle.start_journal.specs.declared.mark.Mark.{Mark}
use Rattle.spool_shows.specs.JobFiles.{JobFile}
use Rattle.spool_store.specs.inside.JobRows.{AreRowsOf, HaveRows, IsRowInserted, IsRisingSoFar, IsRowOrDamage, IsTaken, RowMap, rows_by_number, scanned_numbers, row_in_map}
use Rattle.spool_store.specs.inside.Tables.{AreAscending}
use Rattle.spool_store.proofs.ScanLemmas.{equal_self, key_is, rows_have, so_far_all, so_far_more}
use Rattle.spool_store.proofs.TableLemmas.{rise_none, rise_with}

-- the numbers of rows
abbrev numbers : RowMap → List ℕ
numbers rows = map (λ (under : ℕ × Row). under.0) rows

-- no number is above this one
abbrev AreUpTo : ℕ → List ℕ → Type 0
AreUpTo above list = AllByRecursion (λ (number : ℕ). number ≤ above) list

all_push : (P : ℕ → Type 0) (list : List ℕ) (number : ℕ) → AllByRecursion P list → P number → AllByRecursion P (list ++ number ∷ [])
all_push P [] number all holds = (holds, tt)
all_push P (first ∷ list) number all holds = (all.0, all_push P list number all.1 holds)

up_to_more : (list : List ℕ) (above more : ℕ) → AreUpTo above list → above ≤ more → AreUpTo more list
up_to_more [] above more below over = tt
up_to_more (first ∷ list) above more below over =
    let one : first ≤ above = below.0 in
    (omega arith, up_to_more list above more below.1 over)

rise_last : (list : List ℕ) (above number : ℕ) → AreAscending list → AreUpTo above list → above < number
    → AreAscending (list ++ number ∷ [])
rise_last [] above number rise below over = rise_with number [] tt rise_none
rise_last (first ∷ list) above number rise below over =
    let one : first ≤ above = below.0 in
    let less : first < number = omega arith in
    rise_with first (list ++ number ∷ [])
    (all_push (λ other. nat_cmp first other ≡ Less) list number (sorted_head nat_cmp first list rise)
    (sym (nat_cmp_is first number Less less)))
    (rise_last list above number (sorted_tail nat_cmp first list rise) below.1 over)

-- a number above all has no row
absent : (rows : RowMap) (above number : ℕ) → AreUpTo above (numbers rows) → above < number → row_in_map rows number ≡ None
absent [] above number below over = refl
absent (first ∷ rows) above number below over = by_test (is_at (nat_cmp number) first.0) refl (absent rows above number below.1 over) where
  by_test : (at : Bool) → is_at (nat_cmp number) first.0 ≡ at → row_in_map rows number ≡ None
      → cond at (Some first.1) (row_in_map rows number) ≡ None
  by_test true at rest =
      let same : number ≡ first.0 = key_is number first.0 at in
      let one : first.0 ≤ above = below.0 in
      absurd (omega arith)
  by_test false at rest = rest

at_last : (rows : RowMap) (row : Row) (number : ℕ) → (is_at (nat_cmp number) row.number ≡ true → row_in_map rows number ≡ None)
    → row_in_map (rows ++ (row.number, row) ∷ []) number ≡ cond (is_at (nat_cmp number) row.number) (Some row) (row_in_map rows number)
at_last [] row number none = refl
at_last (first ∷ rows) row number none =
    by_test (is_at (nat_cmp number) first.0) (is_at (nat_cmp number) row.number) none (at_last rows row number)
  where
    by_test : (here last : Bool) → (last ≡ true → cond here (Some first.1) (row_in_map rows number) ≡ None)
        → ((last ≡ true → row_in_map rows number ≡ None)
        → row_in_map (rows ++ (row.number, row) ∷ []) number ≡ cond last (Some row) (row_in_map rows number))
        → cond here (Some first.1) (row_in_map (rows ++ (row.number, row) ∷ []) number)
        ≡ cond last (Some row) (cond here (Some first.1) (row_in_map rows number))
    by_test true true none rest = absurd (let impossible : Some first.1 ≡ None = none refl in cc)
    by_test true false none rest = refl
    by_test false last none rest = rest none

same_way : (one other : ℕ) → is_at (nat_cmp one) other ≡ is_at (nat_cmp other) one
same_way one other = by_test (is_at (nat_cmp one) other) refl (is_at (nat_cmp other) one) refl where
  by_test : (at : Bool) → is_at (nat_cmp one) other ≡ at → (back : Bool) → is_at (nat_cmp other) one ≡ back
      → is_at (nat_cmp one) other ≡ is_at (nat_cmp other) one
  by_test true at true back = at ∙ sym back
  by_test true at false back =
      let impossible : true ≡ false = sym (equal_self one) ∙ ap (λ n. is_at (nat_cmp n) one) (key_is one other at) ∙ back in
      cc
  by_test false at true back =
      let impossible : true ≡ false = sym (equal_self other) ∙ ap (λ n. is_at (nat_cmp n) other) (key_is other one back) ∙ at in
      cc
  by_test false at false back = at ∙ sym back

-- a row with a number above all, put last
pushed : (rows : RowMap) (row : Row) (above : ℕ) → AreUpTo above (numbers rows) → above < row.number
    → IsRowInserted rows (rows ++ (row.number, row) ∷ []) row
pushed rows row above below over number =
    at_last rows row number (λ at. absent rows above number below (subst (λ n. above < n) (sym (key_is number row.number at)) over))
    ∙ ap (λ b. cond b (Some row) (row_in_map rows number)) (same_way number row.number)

-- a file with a number above all has one that no file before it has
pub fresh : (marks : List Mark) (files : List JobFile) (rows : List Row) (above number : ℕ) → AreRowsOf marks files (rows_by_number rows)
    → AreUpTo above (numbers (rows_by_number rows)) → above < number
    → IsTaken (scanned_numbers [] files) number false
fresh marks files rows above number are below over = sym (ap is_some (absent (rows_by_number rows) above number below over))
    ∙ rows_have marks files (rows_by_number rows) are number

-- no file yet
pub rising_none : (last : ℕ) (marks : List Mark) (files : List JobFile) (rows : List Row) → rows ≡ []
    → IsRisingSoFar last marks files 0 0 rows
rising_none last marks files rows is = subst (IsRisingSoFar last marks files 0 0) (sym is) (record {
  so_far = record { damage = refl; rows_are = λ number. refl };
  rise = rise_none;
  below = tt;
})

-- one more file
pub rising_more : (last : ℕ) (marks : List Mark) (files : List JobFile) (place above : ℕ) (rows new : List Row) (file : JobFile) (row : Row)
    → place < length files → get_or files place file ≡ file → IsRisingSoFar last marks files place above rows
    → above < file.job.number → IsRowOrDamage last (scanned_numbers [] (take place files)) marks file (Ok row) → new ≡ rows ++ row ∷ []
    → IsRisingSoFar last marks files (place + 1) row.number new
rising_more last marks files place above rows new file row inside at rising over whole is =
    let over_row : above < row.number = subst (λ n. above < n) (sym (ap (λ (r : Row). r.number) whole.1)) over in
    let made : rows_by_number new ≡ rows_by_number rows ++ (row.number, row) ∷ [] = ap rows_by_number is
    ∙ map-append (λ (r : Row). (r.number, r)) rows (row ∷ []) in
    let keys : numbers (rows_by_number new) ≡ numbers (rows_by_number rows) ++ row.number ∷ [] = ap numbers made
    ∙ map-append (λ (under : ℕ × Row). under.0) (rows_by_number rows) ((row.number, row) ∷ []) in
    record {
      so_far = so_far_more last marks files place (rows_by_number rows) (rows_by_number new) file row inside at rising.so_far whole
          (λ number. ap (λ list. row_in_map list number) made ∙ pushed (rows_by_number rows) row above rising.below over_row number);
      rise = subst AreAscending (sym keys) (rise_last (numbers (rows_by_number rows)) above row.number rising.rise rising.below over_row);
      below = subst (AreUpTo row.number) (sym keys) (all_push (λ n. n ≤ row.number) (numbers (rows_by_number rows)) row.number
          (up_to_more (numbers (rows_by_number rows)) above row.number rising.below (omega arith)) (omega arith));
    }

-- all files
pub rising_all : (last : ℕ) (marks : List Mark) (files : List JobFile) (place above : ℕ) (rows : List Row) → length files ≤ place
    → IsRisingSoFar last marks files place above rows → HaveRows last marks files rows
rising_all last marks files place above rows after rising =
    let all = so_far_all last marks files place (rows_by_number rows) after rising.so_far in
    (all.0, record { are = all.1; rise = rising.rise })
