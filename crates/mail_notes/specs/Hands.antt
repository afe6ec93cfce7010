-- What notes send (own): the notice of each that was sent.
use Rattle.std.specs.Prelude.{◌≡◌, ◌⊎◌, ◌++◌, [], ◌∷◌, ℕ, List, Option, Some, None, Contains}
use Rattle.std.specs.FinMap as map
use Rattle.host_calls.specs.declared.child.Handed.{Handed}
use Rattle.host_calls.specs.Directory.{Files}
use Rattle.listing_text.specs.Lines.{turn_text}
use Rattle.listing_text.specs.declared.turn_step.TurnStepText.{TurnStepText}
use Rattle.listing_text.specs.declared.turn_step.TurnStepText.TheVariants as step
use Rattle.spool_model.specs.declared.entry.Entry.TheVariants.{Done}
use Rattle.spool_model.specs.declared.fate.Fate.{Fate}
use Rattle.spool_model.specs.declared.fate.Fate.TheVariants.{Finished, Interrupted, Removed}
use Rattle.spool_model.specs.JobTable.{JobTable, entry_at}
use Rattle.mail_notes.specs.declared.note.Note.{Note}
use Rattle.mail_notes.specs.declared.note.Note.TheVariants.{Dropped, Noted, Sent}
use Rattle.mail_notes.specs.declared.note.NotedJob.{NotedJob}
use Rattle.mail_notes.specs.Names.{notice_file}
use Rattle.mail_notes.specs.Notices.{notice_text}

-- what notices are made of: the mail program, the table of jobs, and the notes with the new ones
pub record Mailing : Type 0 where
  pub program : List ℕ
  pub table : JobTable
  pub notes : List Note

-- the step of a turn that reports an end; a job that was removed has none
abbrev pub step_of_fate : ℕ → Fate → Option TurnStepText
step_of_fate number (Finished ending) = Some (step.Ended number ending)
step_of_fate number Interrupted = Some (step.Interrupted number)
step_of_fate number Removed = None

-- the job of the number is done, and this step tells of its end
pub record IsEndOf (table : JobTable) (number : ℕ) (end : TurnStepText) : Type 0 where
  pub fate : Fate
  pub done : entry_at table number ≡ Some (Done fate)
  pub told : step_of_fate number fate ≡ Some end

-- the script is the notice of the number's end, for its job as it was noted
pub record IsNoticeOf (of : Mailing) (number : ℕ) (script : List ℕ) : Type 0 where
  pub job : NotedJob
  pub noted : Contains of.notes (Noted job)
  pub number_is : job.number ≡ number
  pub end : TurnStepText
  pub ended : IsEndOf of.table number end
  pub script_is : script ≡ notice_text of.program job (turn_text end)

-- the image has the notice of the number's end under its name
pub record HasNotice (of : Mailing) (number : ℕ) (image : Files) : Type 0 where
  pub script : List ℕ
  pub held : map.get image (notice_file number) ≡ Some script
  pub notice : IsNoticeOf of number script

-- how nice a notice is
abbrev pub notice_nice : ℕ
notice_nice = 19

-- this was sent for the note that the notice of the number was sent
pub record IsHandedFor (of : Mailing) (number : ℕ) (handed : Handed) : Type 0 where
  pub number_is : handed.number ≡ number
  pub notice : IsNoticeOf of number handed.script
  pub nice : handed.nice ≡ notice_nice

-- what one note sends: that a notice was sent its script, another note nothing
abbrev pub SendsNotice : Mailing → Note → List Handed → Type 0
SendsNotice of (Sent number) given = (handed : Handed) × IsHandedFor of number handed × (given ≡ handed ∷ [])
SendsNotice of (Noted job) given = given ≡ []
SendsNotice of (Dropped number) given = given ≡ []

-- what notes send, one after the other
abbrev pub SendsNotices : Mailing → List Note → List Handed → Type 0
SendsNotices of [] given = given ≡ []
SendsNotices of (note ∷ later) given =
    (first : List Handed) × (rest : List Handed) × SendsNotice of note first × SendsNotices of later rest ×
    (given ≡ first ++ rest)

-- The last note is that a notice was sent which was not sent yet, and the image has it; the notes before have
-- sent these.
pub record LacksLastNotice (of : Mailing) (notes : List Note) (image : Files) (given : List Handed) : Type 0 where
  pub earlier : List Note
  pub number : ℕ
  pub ends : notes ≡ earlier ++ Sent number ∷ []
  pub placed : HasNotice of number image
  pub hands : SendsNotices of earlier given

-- What was sent once these notes are in the image. A notice is placed before its note is written, and the note
-- before the notice is sent, so that of the last note may not be sent yet.
abbrev pub SendsNoticesByNow : Mailing → List Note → Files → List Handed → Type 0
SendsNoticesByNow of notes image given = SendsNotices of notes given ⊎ LacksLastNotice of notes image given
