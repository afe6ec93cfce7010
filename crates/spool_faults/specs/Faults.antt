-- All faults of a spool directory (own), in the order in which recovery looks for the first one: of the sequence file,
-- of the journal, of the files of jobs in byte order of their names, and of the starts in the order of their marks.
use Rattle.std.specs.Prelude.{◌==◌, ◌++◌, [], ◌∷◌, ℕ, Bool, List, Option, Result, Ok, Err, is_some, if◌then◌else◌}
use Rattle.std.specs.FinMap.{entries, find}
use Rattle.std.specs.List.{cons_option, filter, filter_map, list_any}
use Rattle.host_calls.specs.declared.damage.Damage.{Damage}
use Rattle.host_calls.specs.Directory.{Files, name_cmp}
use Rattle.job_script.specs.HeaderIn.{header_in}
use Rattle.sequence_file.specs.LastNumber.{last_in}
use Rattle.sequence_file.specs.Sequence.{sequence_file}
use Rattle.spool_model.specs.declared.number.TheConstants.{LAST_NUMBER}
use Rattle.spool_shows.specs.JobFiles.{JobFile, damage_of, file_place, job_files}
use Rattle.spool_shows.specs.Shown.{mark_damage}
use Rattle.start_journal.specs.declared.mark.Mark.{Mark}
use Rattle.start_journal.specs.declared.take_marks.TakenMark.{TakenMark}
use Rattle.start_journal.specs.Journals.{journal_file}
use Rattle.start_journal.specs.Taken.{journal_faults, marks_taken, taken_of}

-- the file begins with a header
abbrev pub has_header : JobFile → Bool
has_header file = is_some (header_in file.bytes)

-- of each number the first file, where files of these numbers come before
abbrev pub first_files : List ℕ → List JobFile → List JobFile
first_files before [] = []
first_files before (file ∷ later) =
    if list_any (λ number. number == file.job.number) before
    then first_files before later
    else file ∷ first_files (file.job.number ∷ before) later

-- the files that are taken: of each number that the marks do not decide, the first that begins with a header
abbrev pub files_taken : List Mark → List (List ℕ × List ℕ) → List JobFile
files_taken marks files = first_files [] (filter has_header (job_files marks files))

-- the greatest number that may be in the directory: the last one, where the sequence file gives it, else any
abbrev pub bound_by : Result ℕ Damage → ℕ
bound_by (Ok last) = last
bound_by (Err damage) = LAST_NUMBER

-- the fault of the sequence file
abbrev pub sequence_faults : Result ℕ Damage → List Damage
sequence_faults (Ok last) = []
sequence_faults (Err damage) = damage ∷ []

-- the faults of files of jobs, each file's first one, after files of these numbers
abbrev pub files_faults : ℕ → List ℕ → List JobFile → List Damage
files_faults bound before [] = []
files_faults bound before (file ∷ later) =
    cons_option (damage_of file (file_place bound before file)) (files_faults bound (file.job.number ∷ before) later)

-- the faults of starts: no file that is taken has their number, or one of another queue has it
abbrev pub starts_faults : List Mark → List JobFile → List TakenMark → List Damage
starts_faults marks files taken = filter_map (λ (one : TakenMark). mark_damage marks files one.place one.mark) taken

-- the faults of files of jobs and of starts, where these marks are taken of the journal
abbrev pub jobs_faults : ℕ → List Mark → List TakenMark → List (List ℕ × List ℕ) → List Damage
jobs_faults bound marks taken files =
    files_faults bound [] (job_files marks files) ++ starts_faults marks (files_taken marks files) taken

-- the faults, by what the sequence file gives and by the content of the journal
abbrev pub faults_after : Result ℕ Damage → Option (List ℕ) → List (List ℕ × List ℕ) → List Damage
faults_after last journal files =
    sequence_faults last
    ++ (journal_faults (bound_by last) journal ++ jobs_faults (bound_by last) (marks_taken journal) (taken_of journal) files)

-- the faults of files that are in byte order of their names
abbrev pub all_faults : List (List ℕ × List ℕ) → List Damage
all_faults files = faults_after (last_in (find name_cmp sequence_file files)) (find name_cmp journal_file files) files

-- the faults of a directory
unfoldable pub faults_of : Files → List Damage
faults_of files = all_faults (entries files)
