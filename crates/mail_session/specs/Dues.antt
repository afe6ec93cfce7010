-- What is due of jobs that were noted (own).
use Rattle.std.specs.Prelude.{[], ◌∷◌, ℕ, List, Contains, map}
use Rattle.mail_notes.specs.declared.note.Note.{Note}
use Rattle.mail_notes.specs.declared.note.Note.TheVariants.{Dropped, Noted, Sent}
use Rattle.mail_notes.specs.Hands.{IsEndOf, Mailing}
use Rattle.mail_session.specs.declared.due.NoticeDue.{NoticeDue}
use Rattle.mail_session.specs.declared.due.NoticeDue.TheVariants.{Drop, Send}

-- the note by which it is done
abbrev pub note_of : NoticeDue → Note
note_of (Send job end) = Sent job.number
note_of (Drop number) = Dropped number

-- the notes by which all of it is done
abbrev pub notes_of : List NoticeDue → List Note
notes_of due_notices = map note_of due_notices

-- a notice is due of a job that was noted, with the end of its job
abbrev pub IsDue : Mailing → NoticeDue → Type 0
IsDue of (Send job end) = Contains of.notes (Noted job) × IsEndOf of.table job.number end
IsDue of (Drop number) = Unit {0}

-- each of them is due
abbrev pub AreDue : Mailing → List NoticeDue → Type 0
AreDue of [] = Unit {0}
AreDue of (due ∷ later) = IsDue of due × AreDue of later

-- the numbers of the notices that these notes send
abbrev pub sent_numbers : List Note → List ℕ
sent_numbers [] = []
sent_numbers (Sent number ∷ later) = number ∷ sent_numbers later
sent_numbers (Noted job ∷ later) = sent_numbers later
sent_numbers (Dropped number ∷ later) = sent_numbers later
