-- What a directory shows, said name by name and number by number (own), with no order of the files.
use Rattle.std.specs.Prelude.{◌≡◌, ◌≤◌, ℕ, ℤ, true, false, List, Option, Some, None, IsSome, MatchBool, Contains}
use Rattle.std.specs.FinMap as map
use Rattle.host_calls.specs.Directory.{Files}
use Rattle.job_script.specs.HeaderIn.{header_in}
use Rattle.sequence_file.specs.Sequence.{GivesNumber, sequence_file}
use Rattle.spool_model.specs.JobTable.{JobEntry, JobTable, entry_at}
use Rattle.start_journal.specs.declared.mark.Mark.{Mark}
use Rattle.start_journal.specs.declared.mark.Mark.TheVariants.{Started}
use Rattle.start_journal.specs.FirstFault.{GivesJournal}
use Rattle.start_journal.specs.Journals.{JournalRead, journal_file}
use Rattle.start_journal.specs.Marks.{is_decided, is_forgotten, last_batch}
use Rattle.spool_shows.specs.JobFiles.{JobFile}
use Rattle.job_name.specs.JobName.{job_named}
use Rattle.spool_shows.specs.Shown.{done_entry, live_entry}

-- the file exists under the name of a job whose number is not finished
pub record IsJobFile (marks : List Mark) (files : Files) (file : JobFile) : Type 0 where
  pub held : map.get files file.name ≡ Some file.bytes
  pub named : job_named file.name ≡ Some file.job
  pub undecided : is_decided file.job.number marks ≡ false

-- its number was drawn, and it begins with a header
pub record IsWholeFile (last : ℕ) (file : JobFile) : Type 0 where
  pub drawn : file.job.number ≤ last
  pub header : IsSome (header_in file.bytes)

-- there is a file of the number in this queue
pub record HasFile (marks : List Mark) (files : Files) (number queue : ℕ) : Type 0 where
  pub file : JobFile
  pub is : IsJobFile marks files file
  pub number_is : file.job.number ≡ number
  pub queue_is : file.job.queue ≡ queue

-- Each file of a job is whole, no number has two of them, and each number that is started and not
-- finished has one, in the queue of its start.
pub record AreSound (last : ℕ) (marks : List Mark) (files : Files) : Type 0 where
  pub each : (file : JobFile) → IsJobFile marks files file → IsWholeFile last file
  pub once : (first second : JobFile) → IsJobFile marks files first → IsJobFile marks files second →
      first.job.number ≡ second.job.number → first.name ≡ second.name
  pub started : (number queue : ℕ) (second : ℤ) → Contains marks (Started number queue second) →
      is_decided number marks ≡ false → HasFile marks files number queue

-- the entry of a number that is finished: none once it was forgotten, else what its mark leaves
abbrev pub ShowsDone : List Mark → ℕ → Option JobEntry → Type 0
ShowsDone marks number None = is_forgotten number marks ≡ true
ShowsDone marks number (Some entry) = (mark : Mark) × Contains marks mark × (done_entry marks mark ≡ Some (number, entry))

-- the entry of a number that is not finished: that of its file, none where it has none
abbrev pub ShowsLive : List Mark → Files → ℕ → Option JobEntry → Type 0
ShowsLive marks files number None = (file : JobFile) → IsJobFile marks files file → ¬ (file.job.number ≡ number)
ShowsLive marks files number (Some entry) = (file : JobFile) × IsJobFile marks files file ×
    (live_entry marks file ≡ (number, entry))

-- the entry of a number
abbrev pub ShowsEntry : List Mark → Files → ℕ → Option JobEntry → Type 0
ShowsEntry marks files number entry =
    MatchBool (is_decided number marks) (ShowsDone marks number entry) (ShowsLive marks files number entry)

-- The directory shows the table, by each of its names and numbers.
pub record ShowsByName (files : Files) (table : JobTable) : Type 0 where
  pub read : JournalRead
  pub last : GivesNumber (map.get files sequence_file) table.last
  pub journal : GivesJournal table.last (map.get files journal_file) read
  pub sound : AreSound table.last read.marks files
  pub batch : table.last_batch ≡ last_batch read.marks
  pub entries : (number : ℕ) → ShowsEntry read.marks files number (entry_at table number)
