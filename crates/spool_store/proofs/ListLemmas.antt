-- The lists of rows and finished numbers: their numbers, and what they are.
use Rattle.std.proofs.Common.{◌≡◌, ℕ, ◌≤◌, Bool, true, false, cond, List, Option, Some, None, [], ◌∷◌, map, sym, ap, subst, ◌∙◌, refl, arith, inl, inr}
use Rattle.std.specs.Prelude.{Contains, is_some, nat_le, option_map, unwrap_or, ◌==◌, ◌&&◌}
use Rattle.std.specs.List.{filter_map, list_all}
use Rattle.std.specs.List.Sorted.{IsStrictlySortedBy}
use Rattle.std.specs.Map.{keys_of}
use Rattle.std.specs.Ordering.{nat_cmp}
use Rattle.std.proofs.lemmas.Bool.Decides.{nat_tests}
use Rattle.std.proofs.lemmas.List.Elements.{All-contains}
use Rattle.spool_model.specs.declared.decided.Decided.{Decided}
use Rattle.spool_model.specs.declared.fate.Fate.{Fate}
use Rattle.spool_model.specs.declared.row.Row.{Row}
use Rattle.start_journal.specs.declared.mark.Mark.{Mark}
use Rattle.start_journal.specs.declared.mark.Mark.TheVariants.{Removed, Started, Ended, Interrupted, Forgotten, Batch}
use Rattle.start_journal.specs.Journals.{AreWritable, are_drawn, is_drawn}
use Rattle.start_journal.specs.Marks.{decides, is_decided, last_batch}
use Rattle.start_journal.specs.Slots.{IsWritable}
use Rattle.spool_shows.specs.JobFiles.{JobFile, file_of, files_damage}
use Rattle.spool_shows.specs.Shown.{damage_of_jobs}
use Rattle.spool_shows.proofs.Membership.{Has, contained, found_has, given_has, has_contained, made_has, one_passes}
use Rattle.spool_shows.proofs.ShownEntries.{some_same}
use Rattle.spool_shows.proofs.SoundLemmas.{fine_is_whole, no_damage_is_fine}
use Rattle.std.proofs.lemmas.Bool.{eqb-true}
use Rattle.start_journal.specs.declared.lifecycles.Lifecycle.{Lifecycle}
use Rattle.start_journal.specs.declared.lifecycles.Lifecycles.{Lifecycles}
use Rattle.spool_store.specs.declared.scanned_job.ScannedJob.{ScannedJob}
use Rattle.start_journal.specs.Lifecycles.{TellLifecycles, decided_of, life_under, remembered_fate, unknown}
use Rattle.spool_store.specs.inside.JobRows.{AreRowsOf, IsInOrder, RowMap, row_of}
use Rattle.spool_store.specs.Rows.{listed_table}
use Rattle.spool_store.specs.inside.ScannedJobs.{file_scanned, files_scanned}
use Rattle.spool_store.specs.inside.Tables.{AreUndecided, IsDrawnBy, ListsDrawn, ListsTable, AreAscending}
use Rattle.start_journal.proofs.LifecycleLemmas.{decided_has_fate}
use Rattle.spool_store.proofs.TableLemmas.{decided_rise, entry_found, rows_rise, table_same}

in_list : {X : Type 0} → (one other : List X) (x : X) → one ≡ other → Contains one x → Has other x
in_list one other x same has = has_contained other x (subst (λ list. Contains list x) same has)

-- Rows.

-- the file that a found row is of
of_file : (marks : List Mark) (files : List JobFile) (key : ℕ) (row : Row) (found : Option JobFile) → file_of key files ≡ found
    → option_map (row_of marks) found ≡ Some row → (file : JobFile) × Has files file × (file.job.number ≡ row.number)
of_file marks files key row None is made = cc
of_file marks files key row (Some file) is made =
    (file, (found_has (λ (f : JobFile). f.job.number == key) files file is).0, ap (λ (r : Row). r.number) (some_same made))

row_file : (marks : List Mark) (files : List JobFile) (rows : RowMap) → AreRowsOf marks files rows → IsInOrder rows → (row : Row)
    → Has (map (λ (e : ℕ × Row). e.1) rows) row → (file : JobFile) × Has files file × (file.job.number ≡ row.number)
row_file marks files rows are ordered row has =
    let entry = made_has (λ (e : ℕ × Row). e.1) rows row has in
    of_file marks files entry.0.0 row (file_of entry.0.0 files) refl
    (sym (are entry.0.0) ∙ entry_found rows entry.0.0 entry.0.1 ordered entry.1 ∙ ap Some entry.2)

-- Finished numbers.

-- a life whose fate is remembered has a fate
has_fate : (life : Lifecycle) (f : Fate) → remembered_fate life ≡ Some f → is_some life.fate ≡ true
has_fate life f is = by_test life.forgotten is where
  by_test : (forgotten : Bool) → cond forgotten None life.fate ≡ Some f → is_some life.fate ≡ true
  by_test true none = cc
  by_test false fated = ap is_some fated

remembered_decided : (marks : List Mark) (lives : Lifecycles) → TellLifecycles marks lives → (number : ℕ) (life : Lifecycle) (f : Fate)
    → life_under lives.by_number number ≡ Some life → remembered_fate life ≡ Some f → is_decided number marks ≡ true
remembered_decided marks lives tells number life f kept fated =
    decided_has_fate number marks
    ∙ ap (λ (l : Lifecycle). is_some l.fate) (sym (tells.1 number) ∙ ap (λ o. unwrap_or o unknown) kept) ∙ has_fate life f fated

made_decided : (entry : ℕ × Lifecycle) (one : Decided) (given : Option Fate) → remembered_fate entry.1 ≡ given → option_map (λ f.
    record { number = entry.0; fate = f }) given ≡ Some one → (f : Fate) × (remembered_fate entry.1 ≡ Some f) × (entry.0 ≡ one.number)
made_decided entry one None is made = cc
made_decided entry one (Some f) is made = (f, is, ap (λ (d : Decided). d.number) (some_same made))

decided_is_decided : (marks : List Mark) (lives : Lifecycles) → TellLifecycles marks lives → IsStrictlySortedBy nat_cmp
    (keys_of lives.by_number) → (one : Decided) → Has (filter_map decided_of lives.by_number) one → is_decided one.number marks ≡ true
decided_is_decided marks lives tells ordered one has =
    let entry = given_has decided_of lives.by_number one has in
    let fated = made_decided entry.0 one (remembered_fate entry.0.1) refl entry.2 in
    ap (λ n. is_decided n marks) (sym fated.2)
    ∙ remembered_decided marks lives tells entry.0.0 entry.0.1 fated.0
    (entry_found lives.by_number entry.0.0 entry.0.1 ordered entry.1) fated.1

all_pass : (test : Mark → Bool) (marks : List Mark) (mark : Mark) → list_all test marks ≡ true → Has marks mark → test mark ≡ true
all_pass test (first ∷ later) mark all (inl same) = ap test (sym same) ∙ first_holds (test first) (list_all test later) all where
  first_holds : (one other : Bool) → (one && other) ≡ true → one ≡ true
  first_holds true other is = refl
  first_holds false other is = is
all_pass test (first ∷ later) mark all (inr has) = all_pass test later mark (other_holds (test first) (list_all test later) all) has where
  other_holds : (one other : Bool) → (one && other) ≡ true → other ≡ true
  other_holds true other is = is
  other_holds false other is = cc
all_pass test [] mark all has = absurd has

up_to : (last other number : ℕ) → (other == number) ≡ true → nat_le other last ≡ true → 1 ≤ other → IsDrawnBy last number
up_to last other number same below some =
    let is : other ≡ number = eqb-true other number same in
    (omega arith, let le : other ≤ last = grind (arith, nat_tests) in omega arith)

decider_drawn : (last number : ℕ) (mark : Mark) → decides number mark ≡ true → is_drawn last mark ≡ true
    → IsWritable mark → IsDrawnBy last number
decider_drawn last number (Removed other) same drawn some = up_to last other number same drawn some
decider_drawn last number (Ended other ending) same drawn some = up_to last other number same drawn some
decider_drawn last number (Interrupted other) same drawn some = up_to last other number same drawn some
decider_drawn last number (Started other queue second) same drawn some = cc
decider_drawn last number (Forgotten other) same drawn some = cc
decider_drawn last number (Batch second) same drawn some = cc

-- a finished number was drawn
pub number_drawn : (last : ℕ) (marks : List Mark) (number : ℕ) → AreWritable marks → are_drawn last marks ≡ true
    → is_decided number marks ≡ true → IsDrawnBy last number
number_drawn last marks number writable drawn decided =
    let mark = one_passes (decides number) marks decided in
    decider_drawn last number mark.0 mark.2 (all_pass (is_drawn last) marks mark.0 drawn mark.1)
    (All-contains IsWritable marks mark.0 writable (contained marks mark.0 mark.1))

-- a file that was seen has the number of a job
pub scanned_number : (scanned : List ScannedJob) (file : JobFile) → Has (files_scanned scanned) file → 1 ≤ file.job.number
scanned_number scanned file has =
    let of = made_has file_scanned scanned file has in
    let one : 1 ≤ of.0.job.number = of.0.job.drawn in
    subst (λ (f : JobFile). 1 ≤ f.job.number) of.2 one

-- lists that are those of the rows and of the lives are those of the table
pub lists_table : (last : ℕ) (marks : List Mark) (files : List JobFile) (rows : RowMap) (lives : Lifecycles)
    (row_list : List Row) (decided : List Decided) → TellLifecycles marks lives → AreRowsOf marks files rows → IsInOrder rows
    → IsStrictlySortedBy nat_cmp (keys_of lives.by_number)
    → row_list ≡ map (λ (e : ℕ × Row). e.1) rows → decided ≡ filter_map decided_of lives.by_number → damage_of_jobs last marks files ≡ None
    → ListsTable last marks files row_list decided
lists_table last marks files rows lives row_list decided tells are ordered orders rows_is decided_is whole = record {
  whole = whole;
  table = ap (λ list. listed_table last list decided (last_batch marks)) rows_is
      ∙ ap (λ list. listed_table last (map (λ (e : ℕ × Row). e.1) rows) list (last_batch marks)) decided_is
      ∙ table_same last marks files rows lives tells are ordered orders;
  rows_rise = subst (λ list. AreAscending (map (λ (row : Row). row.number) list)) (sym rows_is) (rows_rise marks files rows are ordered);
  decided_rise =
      subst (λ list. AreAscending (map (λ (one : Decided). one.number) list)) (sym decided_is) (decided_rise lives.by_number orders);
}

-- and their numbers were drawn
pub lists_drawn : (last : ℕ) (marks : List Mark) (files : List JobFile) (rows : RowMap) (lives : Lifecycles)
    (row_list : List Row) (decided : List Decided) → TellLifecycles marks lives → AreRowsOf marks files rows → IsInOrder rows
    → IsStrictlySortedBy nat_cmp (keys_of lives.by_number)
    → row_list ≡ map (λ (e : ℕ × Row). e.1) rows → decided ≡ filter_map decided_of lives.by_number → files_damage last [] files ≡ None
    → AreUndecided marks files → AreWritable marks → are_drawn last marks ≡ true → ((file : JobFile) → Has files file → 1 ≤ file.job.number)
    → ListsDrawn last row_list decided
lists_drawn last marks files rows lives row_list decided tells are ordered orders rows_is decided_is whole undecided writable drawn named =
    record {
      rows_drawn = λ row has.
          let of = row_file marks files rows are ordered row (in_list row_list (map (λ (e : ℕ × Row). e.1) rows) row rows_is has) in
          subst (IsDrawnBy last) of.2
          (named of.0 of.1, (fine_is_whole last [] files of.0 (no_damage_is_fine last [] files whole) of.1).drawn);
      decided_drawn = λ one has. number_drawn last marks one.number writable drawn
          (decided_is_decided marks lives tells orders one (in_list decided _ one decided_is has));
      apart = λ row one has also same.
          let of = row_file marks files rows are ordered row (in_list row_list (map (λ (e : ℕ × Row). e.1) rows) row rows_is has) in
          let impossible : true ≡ false =
          sym (decided_is_decided marks lives tells orders one (in_list decided _ one decided_is also))
          ∙ ap (λ n. is_decided n marks) (sym (of.2 ∙ same)) ∙ undecided of.0 (contained files of.0 of.1) in
          cc;
    }
