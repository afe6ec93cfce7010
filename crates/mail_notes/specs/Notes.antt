-- What is noted of the mail of jobs, and which note may come next (own).
use Rattle.std.specs.Prelude.{◌≡◌, ◌==◌, ◌&&◌, ◌++◌, ℕ, Bool, true, false, not, IsTrue, List}
use Rattle.std.specs.List.{list_any}
use Rattle.mail_notes.specs.declared.note.Note.{Note}
use Rattle.mail_notes.specs.declared.note.Note.TheVariants.{Dropped, Noted, Sent}

-- the number of the job that is noted
abbrev pub number_of_note : Note → ℕ
number_of_note (Noted job) = job.number
number_of_note (Sent number) = number
number_of_note (Dropped number) = number

-- the note is that the job was seen
abbrev pub is_noting : Note → Bool
is_noting (Noted job) = true
is_noting (Sent number) = false
is_noting (Dropped number) = false

-- the note is that its notice was sent or dropped
abbrev pub is_closing_note : Note → Bool
is_closing_note (Noted job) = false
is_closing_note (Sent number) = true
is_closing_note (Dropped number) = true

-- the note is of the number
abbrev pub is_note_of : ℕ → Note → Bool
is_note_of number note = number_of_note note == number

-- some note is of the number, notes it as seen, sends or drops its notice
abbrev pub has_note_of : ℕ → List Note → Bool
has_note_of number notes = list_any (is_note_of number) notes

abbrev pub is_noted : ℕ → List Note → Bool
is_noted number notes = list_any (λ note. is_note_of number note && is_noting note) notes

abbrev pub has_closing_note : ℕ → List Note → Bool
has_closing_note number notes = list_any (λ note. is_note_of number note && is_closing_note note) notes

-- after these notes the job of the number waits for its notice: it was noted, and none was sent or dropped
abbrev pub awaits_notice : ℕ → List Note → Bool
awaits_notice number notes = is_noted number notes && not (has_closing_note number notes)

-- after these notes this one may come: a job is noted where no note is of it, and its notice is sent or dropped where it
-- waits for one
abbrev pub is_note_allowed : List Note → Note → Bool
is_note_allowed before (Noted job) = not (has_note_of job.number before)
is_note_allowed before (Sent number) = awaits_notice number before
is_note_allowed before (Dropped number) = awaits_notice number before

abbrev pub IsNoteAllowed : List Note → Note → Type 0
IsNoteAllowed before next = IsTrue (is_note_allowed before next)

-- the notes begin with these
abbrev pub IsNotesPrefix : List Note → List Note → Type 0
IsNotesPrefix prefix notes = (after : List Note) × (notes ≡ prefix ++ after)
