-- What is due of the jobs that wait for their notices, by the table (own): a job that is no longer live has a notice where it
-- was run, by its own end or given up, and none where it was removed or is forgotten.
use Rattle.std.specs.Prelude.{◌≡◌, List, Option, Some, None}
use Rattle.std.specs.List.{filter_map}
use Rattle.listing_text.specs.declared.turn_step.TurnStepText.TheVariants as step
use Rattle.spool_model.specs.declared.entry.Entry.TheVariants.{Done, Live}
use Rattle.spool_model.specs.declared.fate.Fate.{Fate}
use Rattle.spool_model.specs.declared.fate.Fate.TheVariants.{Finished, Interrupted, Removed}
use Rattle.spool_model.specs.JobTable.{JobEntry, JobTable, entry_at}
use Rattle.mail_notes.specs.Book.{AreAwaitingNotice}
use Rattle.mail_notes.specs.declared.note.Note.{Note}
use Rattle.mail_notes.specs.declared.note.NotedJob.{NotedJob}
use Rattle.mail_session.specs.declared.due.NoticeDue.{NoticeDue}
use Rattle.mail_session.specs.declared.due.NoticeDue.TheVariants.{Drop, Send}

-- what is due of a job with this fate
abbrev pub due_by : NotedJob → Fate → NoticeDue
due_by job (Finished ending) = Send job (step.Ended job.number ending)
due_by job Interrupted = Send job (step.Interrupted job.number)
due_by job Removed = Drop job.number

-- what is due of a job by its entry: nothing where it is live
abbrev pub due_of_entry : NotedJob → Option JobEntry → Option NoticeDue
due_of_entry job (Some (Live live state)) = None
due_of_entry job (Some (Done fate)) = Some (due_by job fate)
due_of_entry job None = Some (Drop job.number)

-- these are due of the jobs that wait, by number
pub record AreDuesOf (table : JobTable) (notes : List Note) (due_notices : List NoticeDue) : Type 0 where
  pub jobs : List NotedJob
  pub waiting : AreAwaitingNotice notes jobs
  pub dues_are : due_notices ≡ filter_map (λ job. due_of_entry job (entry_at table job.number)) jobs
