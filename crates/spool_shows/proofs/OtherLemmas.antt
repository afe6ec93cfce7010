-- Files that do not count change nothing of what a directory shows.
use Rattle.std.proofs.Common.{◌≡◌, ℕ, Bool, true, false, None, List, cond, sym, ap, ◌∙◌, refl}
use Rattle.std.specs.Prelude.{Result, Ok, Err}
use Rattle.std.specs.Cmp.Lexicographic.{nat_list_cmp_total}
use Rattle.std.specs.FinMap as map
use Rattle.std.specs.FinMap.{entries, entries_sorted, find, get-entries, nat_cmp-IsAntisymmetric, slice_cmp-IsAntisymmetric}
use Rattle.std.specs.FinMap.Entries.{find-where_key, is_sorted-where_key, same_entries, where_key}
use Rattle.std.specs.List.{filter_map}
use Rattle.host_calls.specs.declared.damage.Damage.{Damage}
use Rattle.host_calls.specs.Directory.{Files, name_cmp}
use Rattle.sequence_file.specs.Sequence.{sequence_file}
use Rattle.start_journal.specs.declared.mark.Mark.{Mark}
use Rattle.start_journal.specs.Journals.{JournalRead, journal_file, journal_in}
use Rattle.spool_shows.specs.JobFiles.{counts, job_file, job_files}
use Rattle.sequence_file.specs.LastNumber.{last_in}
use Rattle.spool_shows.specs.Laws.{AgreeOnJobs, HasMarks, OtherFilesCountForNothing}
use Rattle.spool_shows.specs.Shown.{shown_after_journal, shown_after_last, shown_by, shown_by_files}

-- what is found among the entries under names that pass a test
pub found_among : (test : List ℕ → Bool) (files : Files) (name : List ℕ)
    → find name_cmp name (where_key name_cmp test (entries files)) ≡ cond (test name) (map.get files name) None
found_among test files name =
    find-where_key name_cmp test name
    (λ other tied. ap test (sym (slice_cmp-IsAntisymmetric nat_cmp-IsAntisymmetric name other tied))) (entries files)
    ∙ ap (λ found. cond (test name) found None) (sym (get-entries files name))

-- directories that agree on the names that pass a test have the same entries there
pub same_among : (test : List ℕ → Bool) (one other : Files) → ((name : List ℕ) → test name ≡ true → map.get other name ≡ map.get one name)
    → where_key name_cmp test (entries other) ≡ where_key name_cmp test (entries one)
same_among test one other agree =
    same_entries name_cmp nat_list_cmp_total (slice_cmp-IsAntisymmetric nat_cmp-IsAntisymmetric) _ _
    (is_sorted-where_key name_cmp test (entries other) (entries_sorted other))
    (is_sorted-where_key name_cmp test (entries one) (entries_sorted one))
    (λ name. found_among test other name ∙ by_test name (test name) refl ∙ sym (found_among test one name)) where
      by_test : (name : List ℕ) (passes : Bool) → test name ≡ passes
          → cond passes (map.get other name) None ≡ cond passes (map.get one name) None
      by_test name true is = agree name is
      by_test name false is = refl

-- so the files that count are the same
pub same_job_files : (marks : List Mark) (one other : Files) → ((name : List ℕ) → counts marks name ≡ true
    → map.get other name ≡ map.get one name) → job_files marks (entries other) ≡ job_files marks (entries one)
same_job_files marks one other agree = ap (filter_map job_file) (same_among (counts marks) one other agree)

-- after the journal
after_journal : (last : ℕ) (one other : Files) (agree : AgreeOnJobs one other) (journal : Result JournalRead Damage)
    → last_in (map.get one sequence_file) ≡ Ok last → journal_in last (map.get one journal_file) ≡ journal
    → shown_after_journal last journal (entries other) ≡ shown_after_journal last journal (entries one)
after_journal last one other agree (Err damage) number journal = refl
after_journal last one other agree (Ok read) number journal =
    let has : HasMarks one read.marks = record { last = last; free = read.free; number = number; journal = journal } in
    ap (shown_by_files last read.marks) (same_job_files read.marks one other (agree.jobs read.marks has))

-- after the last number
after_last : (one other : Files) (agree : AgreeOnJobs one other) (last : Result ℕ Damage) → last_in (map.get one sequence_file) ≡ last
    → shown_after_last last (entries other) ≡ shown_after_last last (entries one)
after_last one other agree (Err damage) number = refl
after_last one other agree (Ok last) number =
    let of_other : find name_cmp journal_file (entries other) ≡ map.get one journal_file =
    sym (get-entries other journal_file) ∙ agree.journal in
    let of_one : find name_cmp journal_file (entries one) ≡ map.get one journal_file = sym (get-entries one journal_file) in
    ap (λ found. shown_after_journal last (journal_in last found) (entries other)) of_other
    ∙ after_journal last one other agree (journal_in last (map.get one journal_file)) number refl
    ∙ ap (λ found. shown_after_journal last (journal_in last found) (entries one)) (sym of_one)

pub other_files_count_for_nothing : OtherFilesCountForNothing
unfolding shown_by
other_files_count_for_nothing one other agree =
    let of_other : find name_cmp sequence_file (entries other) ≡ map.get one sequence_file =
    sym (get-entries other sequence_file) ∙ agree.sequence in
    let of_one : find name_cmp sequence_file (entries one) ≡ map.get one sequence_file = sym (get-entries one sequence_file) in
    ap (λ found. shown_after_last (last_in found) (entries other)) of_other
    ∙ after_last one other agree (last_in (map.get one sequence_file)) refl
    ∙ ap (λ found. shown_after_last (last_in found) (entries one)) (sym of_one)
