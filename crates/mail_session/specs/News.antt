-- The jobs that a session notes (own): the live ones that no note is of, by number.
use Rattle.std.specs.Prelude.{◌≡◌, ℕ, Bool, List, Some, filter, map, not}
use Rattle.std.specs.FinMap as finite
use Rattle.host_calls.specs.Directory.{Files}
use Rattle.job_name.specs.JobName.{SpellsJobName}
use Rattle.job_script.specs.HeaderIn.{header_in}
use Rattle.spool_model.specs.declared.entry.Entry.TheVariants.{Live}
use Rattle.spool_model.specs.declared.job.Job.{Job}
use Rattle.spool_model.specs.JobTable.{JobState, JobTable, entry_at}
use Rattle.spool_model.specs.Lists.{live_rows}
use Rattle.mail_notes.specs.declared.note.Note.{Note}
use Rattle.mail_notes.specs.declared.note.Note.TheVariants.{Noted}
use Rattle.mail_notes.specs.declared.note.NotedJob.{NotedJob}
use Rattle.mail_notes.specs.Notes.{has_note_of}

-- no note is of the number
abbrev pub is_new : List Note → ℕ → Bool
is_new notes number = not (has_note_of number notes)

-- the numbers of the live jobs that no note is of, by number
abbrev pub new_numbers : JobTable → List Note → List ℕ
new_numbers table notes = filter (is_new notes) (map (λ row. row.number) (live_rows table))

-- the notes that these jobs were seen
abbrev pub noting_of : List NotedJob → List Note
noting_of new_jobs = map Noted new_jobs

-- A live job is noted so: by the name of its file, which holds its script, and by the user and the flag of the script's
-- header.
pub record IsNotedFrom (files : Files) (table : JobTable) (noted : NotedJob) : Type 0 where
  pub job : Job
  pub state : JobState
  pub lives : entry_at table noted.number ≡ Some (Live job state)
  pub new_form : Bool
  pub spelled : SpellsJobName noted.file job.queue noted.number job.minute new_form
  pub held : finite.get files noted.file ≡ Some job.script
  pub header : header_in job.script ≡ Some (noted.user, noted.always)
