-- A directory that was written from what is saved of another (own).
use Rattle.std.specs.Prelude.{◌≡◌, ℕ, List, Ok, Some, map}
use Rattle.std.specs.FinMap as finite
use Rattle.host_calls.specs.Directory.{Files, name_cmp}
use Rattle.job_name.specs.JobName.{NamedJob, job_named}
use Rattle.sequence_file.specs.LastNumber.{last_in}
use Rattle.sequence_file.specs.Sequence.{sequence_file}
use Rattle.spool_faults.specs.Salvaged.{files_of_salvage, last_of_salvage, marks_of_salvage}
use Rattle.spool_shows.specs.JobFiles.{JobFile}
use Rattle.start_journal.specs.Journals.{GivesMarks, journal_file}

-- the name of a job's file and its bytes
abbrev pub named_bytes : JobFile → List ℕ × List ℕ
named_bytes file = (file.name, file.bytes)

-- The directory has the number and the marks that are saved of the files, and of files of jobs those that are saved,
-- each with its own bytes.
pub record IsSalvageOf (files salvage : Files) : Type 0 where
  pub number : last_in (finite.get salvage sequence_file) ≡ Ok (last_of_salvage files)
  pub free : ℕ
  pub journal : GivesMarks (finite.get salvage journal_file) (marks_of_salvage files) free
  pub jobs : (name : List ℕ) (job : NamedJob) → job_named name ≡ Some job
      → finite.get salvage name ≡ finite.find name_cmp name (map named_bytes (files_of_salvage files))
