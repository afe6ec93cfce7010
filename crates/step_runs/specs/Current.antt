-- What a store keeps of a directory, and when it is current (own).
use Rattle.std.specs.Prelude.{◌≡◌, ◌⊎◌, ◌≤◌, ◌==◌, ℕ, Bool, List, None, Some, IsSome, true, false, not}
use Rattle.std.specs.FinMap as map
use Rattle.std.specs.List.{list_any}
use Rattle.host_calls.specs.Directory.{Files, Directory, IsImage, reading_of}
use Rattle.sequence_file.specs.Sequence.{sequence_file}
use Rattle.whole_file.specs.Temporary.{temporary_file}
use Rattle.spool_model.specs.JobTable.{JobTable}
use Rattle.start_journal.specs.declared.mark.Mark.{Mark}
use Rattle.start_journal.specs.JournalChange.{HoldsJournal}
use Rattle.start_journal.specs.Journals.{JournalRead, journal_file}
use Rattle.start_journal.specs.Marks.{is_decided}
use Rattle.job_name.specs.JobName.{NamedJob, job_named}
use Rattle.spool_shows.specs.Shown.{Shows}
use Rattle.step_runs.specs.WithoutScripts.{without_scripts}

-- a name under which the store keeps something: the sequence file, the journal, a file that is being
-- made, and the files of jobs
abbrev pub IsSpoolName : List ℕ → Type 0
IsSpoolName name = (name ≡ sequence_file) ⊎ ((name ≡ journal_file) ⊎ ((name ≡ temporary_file) ⊎ IsSome (job_named name)))

-- each image of the directory shows the table
abbrev pub EachShows : Directory → JobTable → Type 0
EachShows directory table = (image : Files) → IsImage directory image → Shows image table

-- what a store keeps: the table without scripts, the journal, and the numbers whose files have names in the old form
pub record Kept : Type 0 where
  pub table : JobTable
  pub journal : JournalRead
  pub old_form : List ℕ

-- the form of the name that is kept for a number: the new one, but for these numbers
abbrev pub is_new_form : List ℕ → ℕ → Bool
is_new_form old_form number = not (list_any (λ other. other == number) old_form)

-- each file of a job has its name in the form that is kept for its number, and each number of an old one was drawn
pub record HaveForms (old_form : List ℕ) (last : ℕ) (files : Files) : Type 0 where
  pub each : (name : List ℕ) (job : NamedJob) → job_named name ≡ Some job → IsSome (map.get files name)
      → job.new_form ≡ is_new_form old_form job.number
  pub drawn : (number : ℕ) → is_new_form old_form number ≡ false → number ≤ last

-- no file of a job whose number is finished is there
abbrev pub HasNoDecidedFile : List Mark → Files → Type 0
HasNoDecidedFile marks files = (name : List ℕ) (job : NamedJob) →
    job_named name ≡ Some job → is_decided job.number marks ≡ true → map.get files name ≡ None

-- What is kept is current: each image shows the table, the sequence file and the journal are the same in
-- each, no image has a file that is being made, no file of a finished job is left, and the names of the others are
-- kept.
pub record IsCurrent (kept : Kept) (directory : Directory) (table : JobTable) : Type 0 where
  pub shows : EachShows directory table
  pub without_scripts_is : kept.table ≡ without_scripts table
  pub journal : HoldsJournal kept.journal directory
  pub sequence : (image : Files) → IsImage directory image → map.get image sequence_file ≡ map.get (reading_of directory) sequence_file
  pub decided : HasNoDecidedFile kept.journal.marks (reading_of directory)
  pub forms : HaveForms kept.old_form table.last (reading_of directory)
