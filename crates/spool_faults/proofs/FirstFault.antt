-- A directory shows its first fault, and without one the table that is saved of it.
use Rattle.std.proofs.Common.{◌≡◌, ◌≤◌, ℕ, List, [], ◌∷◌, ◌++◌, Option, sym, ap, ◌∙◌, refl}
use Rattle.std.specs.Prelude.{◌||◌, Result, Ok, Err}
use Rattle.std.specs.FinMap.{entries, find}
use Rattle.std.specs.List.{filter, filter_map, list_any}
use Rattle.std.proofs.lemmas.List.{append-nil}
use Rattle.host_calls.specs.declared.damage.Damage.{Damage}
use Rattle.host_calls.specs.Directory.{Files, name_cmp}
use Rattle.sequence_file.specs.LastNumber.{last_in}
use Rattle.sequence_file.specs.Sequence.{sequence_file}
use Rattle.spool_model.specs.declared.number.TheConstants.{LAST_NUMBER}
use Rattle.spool_model.specs.JobTable.{JobTable}
use Rattle.spool_shows.specs.JobFiles.{JobFile, job_files}
use Rattle.spool_shows.specs.Shown.{Shows, damage_of_jobs, shown_after_journal, shown_after_last, shown_by, shown_by_files, starts_damage, table_or_damage, table_shown}
use Rattle.start_journal.specs.declared.mark.Mark.{Mark}
use Rattle.start_journal.specs.Journals.{journal_file, journal_in}
use Rattle.start_journal.specs.Taken.{journal_faults, marks_taken, taken_of}
use Rattle.spool_faults.specs.Faults.{faults_after, faults_of, files_faults, files_taken, jobs_faults, starts_faults}
use Rattle.spool_faults.specs.Laws.{DamageIsTheFirstFault, FaultlessDirectoriesAreSavedWhole, IsSavedWhole, unless_faulty}
use Rattle.spool_faults.specs.Salvaged.{greatest, is_faulty, is_left, is_orphan, marks_with, name_numbers, salvaged, saved_after, saved_files, saved_last, saved_marks}
use Rattle.spool_faults.proofs.FilesFirst.{all_left, files_first, files_kept, head_of, no_orphan, none_given_up, starts_first}
use Rattle.spool_faults.proofs.JournalFirst.{both_empty, journal_first, journal_wider, read_marks, read_of, taken_drawn, taken_numbered}
use Rattle.spool_faults.proofs.NumbersDrawn.{few_last, marks_small, names_small}

-- a directory whose sequence file and journal have no fault
record IsFaultless (last : ℕ) (journal : Option (List ℕ)) : Type 0 where
  pub few : last ≤ LAST_NUMBER
  pub none : journal_faults last journal ≡ []

-- the table, or the first of some faults
table_first : (last : ℕ) (marks : List Mark) (files : List JobFile) (faults : List Damage)
    → table_or_damage last marks files (head_of faults) ≡ unless_faulty faults (table_shown last marks files)
table_first last marks files [] = refl
table_first last marks files (fault ∷ later) = refl

-- what is saved where there is no fault at all
saved_whole : (last : ℕ) (journal : Option (List ℕ)) (files : List (List ℕ × List ℕ))
    → IsFaultless last journal → jobs_faults last (marks_taken journal) (taken_of journal) files ≡ []
    → saved_after (Ok last) journal files ≡ table_shown last (marks_taken journal) (job_files (marks_taken journal) files)
saved_whole last journal files whole none =
    let marks : List Mark = marks_taken journal in
    let both : (files_faults last [] (job_files marks files) ≡ [])
    × (starts_faults marks (files_taken marks files) (taken_of journal) ≡ []) = both_empty _ _ none in
    let drawn = taken_drawn last journal whole.none in
    let all : files_taken marks files ≡ job_files marks files = files_kept last [] (job_files marks files) both.0 in
    let saved : saved_marks (Ok last) journal files ≡ marks =
    ap (λ faults. marks_with marks (files_taken marks files) (is_faulty faults
    || list_any (is_orphan last marks (files_taken marks files)) marks)) (journal_wider last LAST_NUMBER journal whole.few whole.none)
    ∙ ap (marks_with marks (files_taken marks files)) (no_orphan last marks (files_taken marks files) (taken_of journal) both.1)
    ∙ ap (λ list. marks ++ (list ++ [])) (none_given_up marks (files_taken marks files) (taken_of journal) both.1)
    ∙ append-nil marks in
    let number : saved_last (Ok last) journal files ≡ last =
    ap (λ n. greatest n (name_numbers files)) (marks_small last marks drawn) ∙ names_small last marks [] files drawn both.0 in
    let left : saved_files (Ok last) journal files ≡ job_files marks files =
    ap (λ list. filter (is_left list) (files_taken marks files)) saved
    ∙ ap (filter (is_left marks)) all
    ∙ all_left marks files in
    ap (λ n. table_shown n (saved_marks (Ok last) journal files) (saved_files (Ok last) journal files)) number
    ∙ ap (λ list. table_shown last list (saved_files (Ok last) journal files)) saved
    ∙ ap (table_shown last marks) left

-- the files of jobs and the starts, where the sequence file and the journal have no fault
jobs_first : (last : ℕ) (journal : Option (List ℕ)) (files : List (List ℕ × List ℕ)) → IsFaultless last journal
    → shown_by_files last (marks_taken journal) (job_files (marks_taken journal) files)
    ≡ unless_faulty (jobs_faults last (marks_taken journal) (taken_of journal) files) (saved_after (Ok last) journal files)
jobs_first last journal files whole = by_files (files_faults last [] (job_files marks files)) refl where
  marks : List Mark
  marks = marks_taken journal

  jobs : List JobFile
  jobs = job_files marks files

  -- all faults of files and starts
  all : List Damage
  all = jobs_faults last marks (taken_of journal) files

  by_none : (faults : List Damage) → all ≡ faults
      → unless_faulty faults (table_shown last marks jobs) ≡ unless_faulty faults (saved_after (Ok last) journal files)
  by_none [] none = ap Ok (sym (saved_whole last journal files whole none))
  by_none (fault ∷ later) some = refl

  -- where the first fault is
  first_is : damage_of_jobs last marks jobs ≡ head_of all
      → shown_by_files last marks jobs ≡ unless_faulty all (saved_after (Ok last) journal files)
  first_is same =
      ap (table_or_damage last marks jobs) same ∙ table_first last marks jobs all ∙ by_none all refl

  by_files : (faults : List Damage) → files_faults last [] jobs ≡ faults
      → shown_by_files last marks jobs ≡ unless_faulty all (saved_after (Ok last) journal files)
  by_files [] none =
      let taken : starts_damage marks jobs 0 marks ≡ head_of (starts_faults marks (files_taken marks files) (taken_of journal)) =
      starts_first marks jobs 0 marks
      ∙ ap (λ list. head_of (starts_faults marks jobs list)) (sym (taken_numbered last journal whole.none))
      ∙ ap (λ list. head_of (starts_faults marks list (taken_of journal))) (sym (files_kept last [] jobs none)) in
      first_is (
      ap (λ o. Rattle.std.specs.Option.option_or o (starts_damage marks jobs 0 marks)) (files_first last [] jobs ∙ ap head_of none)
      ∙ taken
      ∙ ap (λ list. head_of (list ++ starts_faults marks (files_taken marks files) (taken_of journal))) (sym none))
  by_files (fault ∷ later) some =
      first_is (
      ap (λ o. Rattle.std.specs.Option.option_or o (starts_damage marks jobs 0 marks)) (files_first last [] jobs ∙ ap head_of some)
      ∙ ap (λ list. head_of (list ++ starts_faults marks (files_taken marks files) (taken_of journal))) (sym some))

-- the journal, where the sequence file has no fault
journal_then : (last : ℕ) (journal : Option (List ℕ)) (files : List (List ℕ × List ℕ)) → last ≤ LAST_NUMBER → shown_after_journal last
    (journal_in last journal) files ≡ unless_faulty (faults_after (Ok last) journal files) (saved_after (Ok last) journal files)
journal_then last journal files few = by_faults (journal_faults last journal) refl where
  by_faults : (faults : List Damage) → journal_faults last journal ≡ faults → shown_after_journal last (journal_in last journal) files
      ≡ unless_faulty (faults_after (Ok last) journal files) (saved_after (Ok last) journal files)
  by_faults [] none =
      let read : journal_in last journal ≡ Ok (read_of journal) = journal_first last journal
      ∙ ap (λ list. unless_faulty list (read_of journal)) none in
      ap (λ answer. shown_after_journal last answer files) read
      ∙ ap (λ list. shown_by_files last list (job_files list files)) (read_marks journal)
      ∙ jobs_first last journal files (record { few = few; none = none })
      ∙ ap (λ list. unless_faulty (list ++ jobs_faults last (marks_taken journal) (taken_of journal) files)
      (saved_after (Ok last) journal files)) (sym none)
  by_faults (fault ∷ later) some =
      let read : journal_in last journal ≡ Err fault = journal_first last journal
      ∙ ap (λ list. unless_faulty list (read_of journal)) some in
      ap (λ answer. shown_after_journal last answer files) read
      ∙ ap (λ list. unless_faulty (list ++ jobs_faults last (marks_taken journal) (taken_of journal) files)
      (saved_after (Ok last) journal files)) (sym some)

-- the sequence file
last_then : (content : Option (List ℕ)) (last : Result ℕ Damage) (journal : Option (List ℕ)) (files : List (List ℕ × List ℕ))
    → find name_cmp journal_file files ≡ journal → last_in content ≡ last
    → shown_after_last last files ≡ unless_faulty (faults_after last journal files) (saved_after last journal files)
last_then content (Ok last) journal files held is =
    ap (λ of. shown_after_journal last (journal_in last of) files) held ∙ journal_then last journal files (few_last content last is)
last_then content (Err damage) journal files held is = refl

pub damage_is_the_first_fault : DamageIsTheFirstFault
unfolding shown_by faults_of salvaged
damage_is_the_first_fault files =
    last_then (find name_cmp sequence_file (entries files)) (last_in (find name_cmp sequence_file (entries files)))
    (find name_cmp journal_file (entries files)) (entries files) refl refl

-- a directory without a fault is saved whole
saved_by : (files : Files) (faults : List Damage) → faults_of files ≡ faults → IsSavedWhole files
saved_by files [] none = record {
  shown = λ is. damage_is_the_first_fault files ∙ ap (λ list. unless_faulty list (salvaged files)) is;
  none = λ table shows. none;
  saved = λ table shows.
      let both : Ok table ≡ Ok (salvaged files) = sym shows ∙ damage_is_the_first_fault files
      ∙ ap (λ list. unless_faulty list (salvaged files)) none in
      cc;
}
saved_by files (fault ∷ later) some = record {
  shown = λ is. absurd (let impossible : [] ≡ fault ∷ later = sym is ∙ some in cc);
  none = λ table shows. absurd (no_table table shows);
  saved = λ table shows. absurd (no_table table shows);
} where
  no_table : (table : JobTable) → Shows files table → ⊥
  no_table table shows =
      let impossible : Ok table ≡ Err fault = sym shows ∙ damage_is_the_first_fault files
      ∙ ap (λ list. unless_faulty list (salvaged files)) some in
      cc

pub faultless_directories_are_saved_whole : FaultlessDirectoriesAreSavedWhole
faultless_directories_are_saved_whole files = saved_by files (faults_of files) refl
