-- What is saved of a spool directory (own): the marks and the files that are taken of it, what is added to the marks,
-- and the table that these make.
use Rattle.std.specs.Prelude.{◌++◌, ◌&&◌, ◌||◌, [], ◌∷◌, ℕ, Bool, true, false, not, List, Option, None, Result, Ok, Err, is_some, map, nat_lt, option_map, if◌then◌else◌}
use Rattle.std.specs.FinMap.{entries, find}
use Rattle.std.specs.List.{filter, filter_map, list_any}
use Rattle.host_calls.specs.declared.damage.Damage.{Damage}
use Rattle.host_calls.specs.Directory.{Files, name_cmp}
use Rattle.job_name.specs.JobName.{NamedJob, job_named}
use Rattle.sequence_file.specs.LastNumber.{last_in}
use Rattle.sequence_file.specs.Sequence.{sequence_file}
use Rattle.spool_faults.specs.Faults.{files_taken}
use Rattle.spool_model.specs.declared.number.TheConstants.{LAST_NUMBER}
use Rattle.spool_model.specs.JobTable.{JobTable}
use Rattle.spool_shows.specs.JobFiles.{JobFile, file_of}
use Rattle.spool_shows.specs.Shown.{mark_damage, table_shown}
use Rattle.start_journal.specs.declared.mark.Mark.{Mark}
use Rattle.start_journal.specs.declared.mark.Mark.TheVariants.{Removed, Started, Ended, Interrupted, Forgotten, Batch}
use Rattle.start_journal.specs.Journals.{journal_file}
use Rattle.start_journal.specs.Marks.{is_decided, has_mark_of, number_of_mark}
use Rattle.start_journal.specs.Taken.{journal_faults, marks_taken}

-- a start is given up that is not finished, and whose number has no file that is taken, or one of another queue
abbrev pub given_up : List Mark → List JobFile → Mark → Option Mark
given_up marks files (Started number queue second) =
    option_map (λ damage. Interrupted number) (mark_damage marks files 0 (Started number queue second))
given_up marks files (Removed number) = None
given_up marks files (Ended number ending) = None
given_up marks files (Interrupted number) = None
given_up marks files (Forgotten number) = None
given_up marks files (Batch second) = None

-- no mark names the number of the file
abbrev pub is_unnamed : List Mark → JobFile → Bool
is_unnamed marks file = not (has_mark_of file.job.number marks)

-- the mark that takes a job back
abbrev pub removal_mark : JobFile → Mark
removal_mark file = Removed file.job.number

-- there is a fault
abbrev pub is_faulty : List Damage → Bool
is_faulty [] = false
is_faulty (fault ∷ later) = true

-- the last number that the sequence file gives, 0 where it gives none
abbrev pub last_or_zero : Result ℕ Damage → ℕ
last_or_zero (Ok last) = last
last_or_zero (Err damage) = 0

-- A start is an orphan where its number is above the last one, no mark decides it, and no file that is taken has it: one
-- changed digit makes such a mark of the start of another job.
abbrev pub is_orphan : ℕ → List Mark → List JobFile → Mark → Bool
is_orphan last marks files (Started number queue second) =
    nat_lt last number && (not (is_decided number marks) && not (is_some (file_of number files)))
is_orphan last marks files _ = false

-- A mark may be lost where the journal has a fault, a number above the last one left aside, or an orphan.
abbrev pub loses_marks : Result ℕ Damage → Option (List ℕ) → List JobFile → Bool
loses_marks last journal files =
    is_faulty (journal_faults LAST_NUMBER journal)
    || list_any (is_orphan (last_or_zero last) (marks_taken journal) files) (marks_taken journal)

-- Where a mark may be lost, a job that no mark names is removed, since it may have run.
abbrev pub taken_back : List Mark → List JobFile → Bool → List Mark
taken_back marks files false = []
taken_back marks files true = map removal_mark (filter (is_unnamed marks) files)

-- the marks that are taken, and those that are added to them
abbrev pub marks_with : List Mark → List JobFile → Bool → List Mark
marks_with marks files lost = marks ++ (filter_map (given_up marks files) marks ++ taken_back marks files lost)

-- the marks that are saved, by what the sequence file gives and by the content of the journal
abbrev pub saved_marks : Result ℕ Damage → Option (List ℕ) → List (List ℕ × List ℕ) → List Mark
saved_marks last journal files =
    marks_with (marks_taken journal) (files_taken (marks_taken journal) files)
    (loses_marks last journal (files_taken (marks_taken journal) files))

-- the file's number is not finished
abbrev pub is_left : List Mark → JobFile → Bool
is_left marks file = not (is_decided file.job.number marks)

-- the files that are saved: those that are taken, of numbers that no saved mark decides
abbrev pub saved_files : Result ℕ Damage → Option (List ℕ) → List (List ℕ × List ℕ) → List JobFile
saved_files last journal files = filter (is_left (saved_marks last journal files)) (files_taken (marks_taken journal) files)

-- the greatest of a number and of others
abbrev pub greatest : ℕ → List ℕ → ℕ
greatest least [] = least
greatest least (number ∷ later) = greatest (if nat_lt least number then number else least) later

-- the number of a job's name
abbrev pub number_named : List ℕ → Option ℕ
number_named name = option_map (λ (job : NamedJob). job.number) (job_named name)

-- the numbers in the names of all files of jobs
abbrev pub name_numbers : List (List ℕ × List ℕ) → List ℕ
name_numbers files = filter_map (λ (file : List ℕ × List ℕ). number_named file.0) files

-- the number that counts as drawn last: the greatest of the sequence file, the marks that are taken and the names
abbrev pub saved_last : Result ℕ Damage → Option (List ℕ) → List (List ℕ × List ℕ) → ℕ
saved_last last journal files =
    greatest (greatest (last_or_zero last) (filter_map number_of_mark (marks_taken journal))) (name_numbers files)

-- the table that is saved
abbrev pub saved_after : Result ℕ Damage → Option (List ℕ) → List (List ℕ × List ℕ) → JobTable
saved_after last journal files =
    table_shown (saved_last last journal files) (saved_marks last journal files) (saved_files last journal files)

-- that of files that are in byte order of their names
abbrev pub all_saved : List (List ℕ × List ℕ) → JobTable
all_saved files = saved_after (last_in (find name_cmp sequence_file files)) (find name_cmp journal_file files) files

-- the table that is saved of a directory
unfoldable pub salvaged : Files → JobTable
salvaged files = all_saved (entries files)

-- what a salvage writes: the last number, the marks and the files
abbrev pub last_of_salvage : Files → ℕ
last_of_salvage files =
    saved_last (last_in (find name_cmp sequence_file (entries files))) (find name_cmp journal_file (entries files)) (entries files)

abbrev pub marks_of_salvage : Files → List Mark
marks_of_salvage files =
    saved_marks (last_in (find name_cmp sequence_file (entries files))) (find name_cmp journal_file (entries files)) (entries files)

abbrev pub files_of_salvage : Files → List JobFile
files_of_salvage files =
    saved_files (last_in (find name_cmp sequence_file (entries files))) (find name_cmp journal_file (entries files)) (entries files)

-- a mark of the directory's journal may be lost
abbrev pub loses_marks_of : Files → Bool
loses_marks_of files =
    loses_marks (last_in (find name_cmp sequence_file (entries files))) (find name_cmp journal_file (entries files))
    (files_taken (marks_taken (find name_cmp journal_file (entries files))) (entries files))
