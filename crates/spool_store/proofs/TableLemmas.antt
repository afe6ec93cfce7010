-- The table of the rows and finished numbers, number by number.
use Rattle.std.proofs.Common.{◌≡◌, ℕ, Bool, true, false, cond, List, Option, Some, None, [], ◌∷◌, ◌++◌, map, sym, ap, subst, ◌∙◌, refl, inl, inr}
use Rattle.std.specs.Prelude.{◌==◌, option_map, unwrap_or}
use Rattle.std.specs.declared.cmp.Ordering.TheVariants.{Less}
use Rattle.std.specs.BTreeMap.{is_at}
use Rattle.std.specs.Cmp.{nat_cmp_total}
use Rattle.std.specs.FinMap.{entries, from_entries, find as find_entry, get-entries, get-from_entries, nat_cmp-IsAntisymmetric, same_map}
use Rattle.std.specs.List.{AllByRecursion, cons_option, filter_map}
use Rattle.std.specs.List.Sorted.{IsStrictlySortedBy}
use Rattle.std.specs.Map.{keys_of, lookup}
use Rattle.std.specs.Option.{option_and_then, option_or}
use Rattle.std.specs.Ordering.{eq_by_cmp, is_eq, nat_cmp}
use Rattle.std.proofs.lemmas.Map.Keys.{sorted_head, sorted_tail}
use Rattle.spool_model.specs.declared.decided.Decided.{Decided}
use Rattle.spool_model.specs.declared.entry.Entry.TheVariants.{Done}
use Rattle.spool_model.specs.declared.fate.Fate.{Fate}
use Rattle.spool_model.specs.declared.fate.Fate.TheVariants as fate
use Rattle.spool_model.specs.declared.row.Row.{Row}
use Rattle.spool_model.specs.JobTable.{JobEntry, table_of}
use Rattle.start_journal.specs.declared.mark.Mark.{Mark}
use Rattle.start_journal.specs.declared.mark.Mark.TheVariants.{Removed, Started, Ended, Interrupted, Forgotten, Batch}
use Rattle.start_journal.specs.Marks.{is_forgotten, last_batch}
use Rattle.spool_shows.specs.JobFiles.{JobFile, file_of, files_damage}
use Rattle.spool_shows.specs.Shown.{damage_of_jobs, done_as, done_entry, entries_shown, live_entry, starts_damage, table_shown}
use Rattle.spool_shows.proofs.Membership.{Has, found_has}
use Rattle.spool_shows.proofs.ShownEntries.{fails_other, some_same}
use Rattle.spool_shows.proofs.StartLemmas.{number_passes}
use Rattle.std.proofs.lemmas.Bool.{eqb-true}
use Rattle.step_runs.specs.WithoutScripts.{without_scripts, entries_without_scripts, entry_without_script}
use Rattle.start_journal.specs.declared.lifecycles.Lifecycle.{Lifecycle}
use Rattle.start_journal.specs.declared.lifecycles.Lifecycles.{Lifecycles}
use Rattle.start_journal.specs.Lifecycles.{TellLifecycles, decided_of, fate_at, life_under, remembered_at, remembered_fate, unknown}
use Rattle.spool_store.specs.inside.Tables.{AreAscending}
use Rattle.spool_store.specs.inside.JobRows.{AreRowsOf, IsInOrder, ListsRows, RowMap, rows_by_number, row_of}
use Rattle.spool_store.specs.Rows.{decided_entry, listed_entries, listed_table, row_entry}
use Rattle.spool_store.proofs.ScanLemmas.{equal_self, key_is}

-- a number, as a key and as a test
same_test : (one other : ℕ) → eq_by_cmp nat_cmp one other ≡ (other == one)
same_test one other = by_test (is_at (nat_cmp one) other) refl where
  by_test : (at : Bool) → is_at (nat_cmp one) other ≡ at → is_at (nat_cmp one) other ≡ (other == one)
  by_test true at = at ∙ sym (number_passes other one (sym (key_is one other at)))
  by_test false at = at ∙ sym (fails_other other one (λ same. let impossible : true ≡ false = sym (equal_self one)
      ∙ ap (is_at (nat_cmp one)) (sym same) ∙ at in cc))

-- What is found in lists.

find_in_two : (number : ℕ) (one other : List (ℕ × JobEntry))
    → find_entry nat_cmp number (one ++ other) ≡ option_or (find_entry nat_cmp number one) (find_entry nat_cmp number other)
find_in_two number [] other = refl
find_in_two number (entry ∷ one) other = by_test (eq_by_cmp nat_cmp number entry.0) (find_in_two number one other) where
  by_test : (at : Bool)
      → find_entry nat_cmp number (one ++ other) ≡ option_or (find_entry nat_cmp number one) (find_entry nat_cmp number other)
      → cond at (Some entry.1) (find_entry nat_cmp number (one ++ other))
      ≡ option_or (cond at (Some entry.1) (find_entry nat_cmp number one)) (find_entry nat_cmp number other)
  by_test true rest = refl
  by_test false rest = rest

find_without_scripts : (number : ℕ) (list : List (ℕ × JobEntry))
    → find_entry nat_cmp number (entries_without_scripts list) ≡ option_map entry_without_script (find_entry nat_cmp number list)
find_without_scripts number [] = refl
find_without_scripts number (entry ∷ list) = by_test (eq_by_cmp nat_cmp number entry.0) (find_without_scripts number list) where
  by_test : (at : Bool) → find_entry nat_cmp number (entries_without_scripts list)
      ≡ option_map entry_without_script (find_entry nat_cmp number list)
      → cond at (Some (entry_without_script entry.1)) (find_entry nat_cmp number (entries_without_scripts list))
      ≡ option_map entry_without_script (cond at (Some entry.1) (find_entry nat_cmp number list))
  by_test true rest = refl
  by_test false rest = rest

find_live : (number : ℕ) (marks : List Mark) (files : List JobFile)
    → find_entry nat_cmp number (map (live_entry marks) files) ≡ option_map (λ file. (live_entry marks file).1) (file_of number files)
find_live number marks [] = refl
find_live number marks (file ∷ files) =
    ap (λ b. cond b (Some (live_entry marks file).1) (find_entry nat_cmp number (map (live_entry marks) files)))
    (same_test number file.job.number)
    ∙ by_test (file.job.number == number) (find_live number marks files) where
      by_test : (at : Bool) → find_entry nat_cmp number (map (live_entry marks) files)
          ≡ option_map (λ f. (live_entry marks f).1) (file_of number files)
          → cond at (Some (live_entry marks file).1) (find_entry nat_cmp number (map (live_entry marks) files))
          ≡ option_map (λ f. (live_entry marks f).1) (cond at (Some file) (file_of number files))
      by_test true rest = refl
      by_test false rest = rest

-- The finished numbers of marks.

-- the fate, unless the number was forgotten
unless : Bool → Option Fate → Option JobEntry
unless forgotten given = option_map Done (cond forgotten None given)

-- what one mark gives, before what the others give
one_given : (marks : List Mark) (number other : ℕ) (is : Fate) (given : Option Fate) (rest : List (ℕ × JobEntry))
    → find_entry nat_cmp number rest ≡ option_map Done (cond (is_forgotten number marks) None given)
    → find_entry nat_cmp number (cons_option (done_as marks other is) rest)
    ≡ option_map Done (cond (is_forgotten number marks) None (option_or (cond (other == number) (Some is) None) given))
one_given marks number other is given rest before = by_test (is_forgotten other marks) refl (other == number) refl where
  by_test : (forgotten : Bool) → is_forgotten other marks ≡ forgotten → (same : Bool) → (other == number) ≡ same
      → find_entry nat_cmp number (cons_option (cond forgotten None (Some (other, Done is))) rest)
      ≡ option_map Done (cond (is_forgotten number marks) None (option_or (cond same (Some is) None) given))
  by_test true gone true same =
      let gone_too : is_forgotten number marks ≡ true = ap (λ n. is_forgotten n marks) (sym (eqb-true other number same)) ∙ gone in
      before ∙ ap (λ b. option_map Done (cond b None given)) gone_too ∙ sym (ap (λ b. option_map Done (cond b None (Some is))) gone_too)
  by_test true gone false same = before
  by_test false kept true same =
      let kept_too : is_forgotten number marks ≡ false = ap (λ n. is_forgotten n marks) (sym (eqb-true other number same)) ∙ kept in
      ap (λ b. cond b (Some (Done is)) (find_entry nat_cmp number rest)) (same_test number other ∙ same)
      ∙ sym (ap (λ b. option_map Done (cond b None (Some is))) kept_too)
  by_test false kept false same =
      ap (λ b. cond b (Some (Done is)) (find_entry nat_cmp number rest)) (same_test number other ∙ same) ∙ before

find_done : (number : ℕ) (marks list : List Mark) → find_entry nat_cmp number (filter_map (done_entry marks) list)
    ≡ option_map Done (cond (is_forgotten number marks) None (fate_at number list))
find_done number marks [] = by_test (is_forgotten number marks) where
  by_test : (forgotten : Bool) → None ≡ option_map {U = JobEntry} Done (cond forgotten None None)
  by_test true = refl
  by_test false = refl
find_done number marks (Removed other ∷ later) =
    one_given marks number other fate.Removed (fate_at number later) _ (find_done number marks later)
find_done number marks (Ended other ending ∷ later) =
    one_given marks number other (fate.Finished ending) (fate_at number later) _ (find_done number marks later)
find_done number marks (Interrupted other ∷ later) =
    one_given marks number other fate.Interrupted (fate_at number later) _ (find_done number marks later)
find_done number marks (Started other queue second ∷ later) = find_done number marks later
find_done number marks (Forgotten other ∷ later) = find_done number marks later
find_done number marks (Batch second ∷ later) = find_done number marks later

-- Entries of maps in the order of their keys.

-- a number below all keys is none of them
below_all : {X : Type 0} → (number : ℕ) (list : List (ℕ × X))
    → AllByRecursion (λ key. nat_cmp number key ≡ Less) (map (λ (e : ℕ × X). e.0) list) → lookup (is_at (nat_cmp number)) list ≡ None
below_all number [] below = refl
below_all number (entry ∷ list) below = ap (λ b. cond b (Some entry.1) (lookup (is_at (nat_cmp number)) list)) (ap is_eq below.0)
    ∙ below_all number list below.1

-- an entry is found under its key
pub entry_found : {X : Type 0} → (list : List (ℕ × X)) (key : ℕ) (value : X) → IsStrictlySortedBy nat_cmp (map (λ (e : ℕ × X). e.0) list)
    → Has list (key, value) → lookup (is_at (nat_cmp key)) list ≡ Some value
entry_found [] key value sorted has = absurd has
entry_found (entry ∷ list) key value sorted (inl same) =
    ap (λ b. cond b (Some entry.1) (lookup (is_at (nat_cmp key)) list)) (ap (is_at (nat_cmp key)) (ap (λ e. e.0) same) ∙ equal_self key)
    ∙ ap (λ e. Some e.1) same
entry_found (entry ∷ list) key value sorted (inr later) =
    by_test (is_at (nat_cmp key) entry.0) refl (entry_found list key value (sorted_tail nat_cmp _ _ sorted) later)
  where
    by_test : (at : Bool) → is_at (nat_cmp key) entry.0 ≡ at → lookup (is_at (nat_cmp key)) list ≡ Some value
        → cond at (Some entry.1) (lookup (is_at (nat_cmp key)) list) ≡ Some value
    by_test true at found =
        let none : lookup (is_at (nat_cmp key)) list ≡ None = ap (λ n. lookup (is_at (nat_cmp n)) list) (key_is key entry.0 at)
        ∙ below_all entry.0 list (sorted_head nat_cmp _ _ sorted) in
        let impossible : Some value ≡ None = sym found ∙ none in
        cc
    by_test false at found = found

-- the finished numbers of lives
decided_found : (number : ℕ) (entry : ℕ × Lifecycle) (list : List (ℕ × Lifecycle)) (tail : List Decided)
    → find_entry nat_cmp number (map decided_entry tail)
    ≡ option_map Done (option_and_then remembered_fate (lookup (is_at (nat_cmp number)) list))
    → AllByRecursion (λ key. nat_cmp entry.0 key ≡ Less) (map (λ (e : ℕ × Lifecycle). e.0) list)
    → find_entry nat_cmp number (map decided_entry (cons_option (decided_of entry) tail))
    ≡ option_map Done (option_and_then remembered_fate (lookup (is_at (nat_cmp number)) (entry ∷ list)))
decided_found number entry list tail rest below = by_test (remembered_fate entry.1) refl (is_at (nat_cmp number) entry.0) refl where
  by_test : (given : Option Fate) → remembered_fate entry.1 ≡ given → (at : Bool) → is_at (nat_cmp number) entry.0 ≡ at
      → find_entry nat_cmp number (map decided_entry (cons_option (option_map (λ f. record { number = entry.0; fate = f }) given) tail))
      ≡ option_map Done (option_and_then remembered_fate (cond at (Some entry.1) (lookup (is_at (nat_cmp number)) list)))
  by_test None is true at =
      rest ∙ ap (λ o. option_map Done (option_and_then remembered_fate o))
      (ap (λ n. lookup (is_at (nat_cmp n)) list) (key_is number entry.0 at) ∙ below_all entry.0 list below)
      ∙ sym (ap (option_map Done) is)
  by_test None is false at = rest
  by_test (Some f) is true at = ap (λ b. cond b (Some (Done f)) (find_entry nat_cmp number (map decided_entry tail))) at
      ∙ sym (ap (option_map Done) is)
  by_test (Some f) is false at = ap (λ b. cond b (Some (Done f)) (find_entry nat_cmp number (map decided_entry tail))) at ∙ rest

find_decided : (number : ℕ) (list : List (ℕ × Lifecycle)) → IsStrictlySortedBy nat_cmp (map (λ (e : ℕ × Lifecycle). e.0) list)
    → find_entry nat_cmp number (map decided_entry (filter_map decided_of list))
    ≡ option_map Done (option_and_then remembered_fate (lookup (is_at (nat_cmp number)) list))
find_decided number [] sorted = refl
find_decided number (entry ∷ list) sorted =
    decided_found number entry list (filter_map decided_of list) (find_decided number list (sorted_tail nat_cmp _ _ sorted))
    (sorted_head nat_cmp _ _ sorted)

pub find_rows : (number : ℕ) (list : List (ℕ × Row)) → ((key : ℕ) (row : Row) → Has list (key, row) → row.number ≡ key)
    → find_entry nat_cmp number (map row_entry (map (λ (e : ℕ × Row). e.1) list))
    ≡ option_map (λ row. (row_entry row).1) (lookup (is_at (nat_cmp number)) list)
find_rows number [] keyed = refl
find_rows number (entry ∷ list) keyed =
    ap (λ n. cond (is_at (nat_cmp number) n) (Some (row_entry entry.1).1)
    (find_entry nat_cmp number (map row_entry (map (λ (e : ℕ × Row). e.1) list)))) (keyed entry.0 entry.1 (inl refl))
    ∙ by_test (is_at (nat_cmp number) entry.0) (find_rows number list (λ key row has. keyed key row (inr has))) where
      by_test : (at : Bool) → find_entry nat_cmp number (map row_entry (map (λ (e : ℕ × Row). e.1) list))
          ≡ option_map (λ row. (row_entry row).1) (lookup (is_at (nat_cmp number)) list)
          → cond at (Some (row_entry entry.1).1) (find_entry nat_cmp number (map row_entry (map (λ (e : ℕ × Row). e.1) list)))
          ≡ option_map (λ row. (row_entry row).1) (cond at (Some entry.1) (lookup (is_at (nat_cmp number)) list))
      by_test true rest = refl
      by_test false rest = rest

-- a row is under the number of its file
row_keyed : (marks : List Mark) (files : List JobFile) (key : ℕ) (row : Row) (found : Option JobFile) → file_of key files ≡ found
    → option_map (row_of marks) found ≡ Some row → row.number ≡ key
row_keyed marks files key row None is made = cc
row_keyed marks files key row (Some file) is made =
    ap (λ (r : Row). r.number) (sym (some_same made))
    ∙ eqb-true file.job.number key (found_has (λ (f : JobFile). f.job.number == key) files file is).1

pub rows_keyed : (marks : List Mark) (files : List JobFile) (rows : RowMap) → AreRowsOf marks files rows → IsInOrder rows
    → (key : ℕ) (row : Row) → Has rows (key, row) → row.number ≡ key
rows_keyed marks files rows are ordered key row has =
    row_keyed marks files key row (file_of key files) refl (sym (are key) ∙ entry_found rows key row ordered has)

-- rows, from under their numbers
pub unnumbered : (rows : List Row) → map (λ (e : ℕ × Row). e.1) (rows_by_number rows) ≡ rows
unnumbered [] = refl
unnumbered (row ∷ rows) = ap (λ list. row ∷ list) (unnumbered rows)

renumbered : (rows : RowMap) → ((key : ℕ) (row : Row) → Has rows (key, row) → row.number ≡ key)
    → rows_by_number (map (λ (e : ℕ × Row). e.1) rows) ≡ rows
renumbered [] keyed = refl
renumbered (entry ∷ rows) keyed =
    λ i. (keyed entry.0 entry.1 (inl refl) i, entry.1) ∷ renumbered rows (λ key row has. keyed key row (inr has)) i

-- rows under their numbers, in order, are listed
pub lists_rows : (marks : List Mark) (files : List JobFile) (rows : RowMap) (list : List Row) → AreRowsOf marks files rows → IsInOrder rows
    → list ≡ map (λ (e : ℕ × Row). e.1) rows → ListsRows marks files list
lists_rows marks files rows list are rise is =
    let same : rows_by_number list ≡ rows = ap rows_by_number is ∙ renumbered rows (rows_keyed marks files rows are rise) in
    record { are = subst (AreRowsOf marks files) (sym same) are; rise = subst IsInOrder (sym same) rise }

-- The table.

-- what is found in the two lists, with the file of the number and its fate
joined : (marks : List Mark) (found : Option JobFile) (given : Option Fate)
    → option_or (option_map (λ row. (row_entry row).1) (option_map (row_of marks) found)) (option_map Done given)
    ≡ option_map entry_without_script (option_or (option_map (λ file. (live_entry marks file).1) found) (option_map Done given))
joined marks (Some file) given = refl
joined marks None (Some f) = refl
joined marks None None = refl

remembered : (kept : Option Lifecycle) → option_and_then remembered_fate kept ≡ remembered_fate (unwrap_or kept unknown)
remembered None = refl
remembered (Some life) = refl

lives_decided : (marks : List Mark) (lives : Lifecycles) → TellLifecycles marks lives
    → IsStrictlySortedBy nat_cmp (keys_of lives.by_number) → (number : ℕ)
    → find_entry nat_cmp number (map decided_entry (filter_map decided_of lives.by_number)) ≡ option_map Done (remembered_at number marks)
lives_decided marks lives tells ordered number =
    find_decided number lives.by_number ordered
    ∙ ap (option_map Done) (remembered (life_under lives.by_number number) ∙ ap remembered_fate (tells.1 number))

-- what the shown entries have under a number: the job of its file, or else its fate
pub found_shown : (number : ℕ) (marks : List Mark) (files : List JobFile) → find_entry nat_cmp number (entries_shown marks files)
    ≡ option_or (option_map (λ file. (live_entry marks file).1) (file_of number files)) (option_map Done (remembered_at number marks))
found_shown number marks files =
    find_in_two number (map (live_entry marks) files) (filter_map (done_entry marks) marks)
    ∙ ap (λ o. option_or o (find_entry nat_cmp number (filter_map (done_entry marks) marks))) (find_live number marks files)
    ∙ ap (option_or (option_map (λ file. (live_entry marks file).1) (file_of number files))) (find_done number marks marks)

found_same : (marks : List Mark) (files : List JobFile) (rows : RowMap) (lives : Lifecycles) → TellLifecycles marks lives
    → AreRowsOf marks files rows → IsInOrder rows → IsStrictlySortedBy nat_cmp (keys_of lives.by_number) → (number : ℕ)
    → find_entry nat_cmp number (listed_entries (map (λ (e : ℕ × Row). e.1) rows) (filter_map decided_of lives.by_number))
    ≡ option_map entry_without_script (find_entry nat_cmp number (entries_shown marks files))
found_same marks files rows lives tells are ordered orders number =
    find_in_two number (map row_entry (map (λ (e : ℕ × Row). e.1) rows)) (map decided_entry (filter_map decided_of lives.by_number))
    ∙ ap (λ o. option_or o (find_entry nat_cmp number (map decided_entry (filter_map decided_of lives.by_number))))
    (find_rows number rows (rows_keyed marks files rows are ordered) ∙ ap (option_map (λ row. (row_entry row).1)) (are number))
    ∙ ap (option_or (option_map (λ row. (row_entry row).1) (option_map (row_of marks) (file_of number files))))
    (lives_decided marks lives tells orders number)
    ∙ joined marks (file_of number files) (remembered_at number marks)
    ∙ ap (option_map entry_without_script) (sym (found_shown number marks files))

pub table_same : (last : ℕ) (marks : List Mark) (files : List JobFile) (rows : RowMap) (lives : Lifecycles) → TellLifecycles marks lives
    → AreRowsOf marks files rows → IsInOrder rows → IsStrictlySortedBy nat_cmp (keys_of lives.by_number)
    → listed_table last (map (λ (e : ℕ × Row). e.1) rows) (filter_map decided_of lives.by_number) (last_batch marks)
    ≡ without_scripts (table_shown last marks files)
unfolding without_scripts
table_same last marks files rows lives tells are ordered orders =
    ap (λ es. table_of last es (last_batch marks))
    (same_map nat_cmp_total nat_cmp-IsAntisymmetric _ _
    (λ number.
    get-from_entries nat_cmp_total (listed_entries (map (λ (e : ℕ × Row). e.1) rows) (filter_map decided_of lives.by_number)) number
    ∙ found_same marks files rows lives tells are ordered orders number
    ∙ sym
    (get-from_entries nat_cmp_total (entries_without_scripts (entries (from_entries {R = nat_cmp} (entries_shown marks files)))) number
    ∙ find_without_scripts number (entries (from_entries {R = nat_cmp} (entries_shown marks files)))
    ∙ ap (option_map entry_without_script) (sym (get-entries (from_entries {R = nat_cmp} (entries_shown marks files)) number)
    ∙ get-from_entries nat_cmp_total (entries_shown marks files) number))))

-- Orders.

pub rise_with : (number : ℕ) (later : List ℕ) → AllByRecursion (λ other. nat_cmp number other ≡ Less) later
    → IsStrictlySortedBy nat_cmp later → IsStrictlySortedBy nat_cmp (number ∷ later)
unfolding IsStrictlySortedBy
rise_with number later below sorted = (below, sorted)

pub rise_none : IsStrictlySortedBy nat_cmp []
unfolding IsStrictlySortedBy
rise_none = tt

numbers_are_keys : (list : List (ℕ × Row)) → ((key : ℕ) (row : Row) → Has list (key, row) → row.number ≡ key)
    → map (λ (row : Row). row.number) (map (λ (e : ℕ × Row). e.1) list) ≡ map (λ (e : ℕ × Row). e.0) list
numbers_are_keys [] keyed = refl
numbers_are_keys (entry ∷ list) keyed =
    ap (λ n. n ∷ map (λ (row : Row). row.number) (map (λ (e : ℕ × Row). e.1) list)) (keyed entry.0 entry.1 (inl refl))
    ∙ ap (λ ns. entry.0 ∷ ns) (numbers_are_keys list (λ key row has. keyed key row (inr has)))

pub rows_rise : (marks : List Mark) (files : List JobFile) (rows : RowMap) → AreRowsOf marks files rows → IsInOrder rows
    → AreAscending (map (λ (row : Row). row.number) (map (λ (e : ℕ × Row). e.1) rows))
rows_rise marks files rows are ordered =
    subst (IsStrictlySortedBy nat_cmp) (sym (numbers_are_keys rows (rows_keyed marks files rows are ordered))) ordered

-- what holds of all keys holds of the finished numbers
kept_all : (P : ℕ → Type 0) (list : List (ℕ × Lifecycle)) → AllByRecursion P (map (λ (e : ℕ × Lifecycle). e.0) list)
    → AllByRecursion P (map (λ (one : Decided). one.number) (filter_map decided_of list))
kept_all P [] all = tt
kept_all P (entry ∷ list) all = by_fate (remembered_fate entry.1) (kept_all P list all.1) where
  by_fate : (given : Option Fate) → AllByRecursion P (map (λ (one : Decided). one.number) (filter_map decided_of list))
      → AllByRecursion P (map (λ (one : Decided). one.number)
      (cons_option (option_map (λ f. record { number = entry.0; fate = f }) given) (filter_map decided_of list)))
  by_fate None rest = rest
  by_fate (Some f) rest = (all.0, rest)

pub decided_rise : (list : List (ℕ × Lifecycle)) → IsStrictlySortedBy nat_cmp (map (λ (e : ℕ × Lifecycle). e.0) list)
    → AreAscending (map (λ (one : Decided). one.number) (filter_map decided_of list))
decided_rise [] sorted = rise_none
decided_rise (entry ∷ list) sorted = by_fate (remembered_fate entry.1) (decided_rise list (sorted_tail nat_cmp _ _ sorted)) where
  by_fate : (given : Option Fate) → AreAscending (map (λ (one : Decided). one.number) (filter_map decided_of list))
      → AreAscending (map (λ (one : Decided). one.number)
      (cons_option (option_map (λ f. record { number = entry.0; fate = f }) given) (filter_map decided_of list)))
  by_fate None rest = rest
  by_fate (Some f) rest = rise_with entry.0 _ (kept_all (λ other. nat_cmp entry.0 other ≡ Less) list (sorted_head nat_cmp _ _ sorted)) rest

-- The lists.

-- neither files nor starts are damaged
pub no_damage : (last : ℕ) (marks : List Mark) (files : List JobFile) → files_damage last [] files ≡ None
    → None ≡ starts_damage marks files 0 marks → damage_of_jobs last marks files ≡ None
no_damage last marks files whole starts = ap (λ o. option_or o (starts_damage marks files 0 marks)) whole ∙ sym starts
