-- The line of a note (own): a letter, the number in eight hexadecimal digits, and of a job that was seen its file, a flag
-- and its user, with one space between.
use Rattle.std.specs.Prelude.{◌≡◌, ◌<◌, ◌^◌, ◌++◌, [], ◌∷◌, ℕ, Bool, List, Option, None, Some, if◌then◌else◌}
use Rattle.std.specs.List.{flat_map}
use Rattle.text_reader.specs.HexDigits.{digits_of}
use Rattle.job_name.specs.JobName.{SpellsJobName}
use Rattle.spool_model.specs.Users.{IsUserName}
use Rattle.mail_notes.specs.declared.note.Note.{Note}
use Rattle.mail_notes.specs.declared.note.Note.TheVariants.{Dropped, Noted, Sent}
use Rattle.mail_notes.specs.declared.note.NotedJob.{NotedJob}
use Rattle.mail_notes.specs.Notes.{number_of_note}

-- the letter of a note
abbrev pub letter_of_note : Note → ℕ
letter_of_note (Noted job) = 78
letter_of_note (Sent number) = 83
letter_of_note (Dropped number) = 68

-- the flag of a job: 1 where its notice is sent in any case, else 0
abbrev pub flag_byte : Bool → ℕ
flag_byte always = if always then 49 else 48

-- the byte is a flag
abbrev pub IsFlag : ℕ → Type 0
IsFlag byte = (always : Bool) × (byte ≡ flag_byte always)

-- what is after the number of a job that was seen
abbrev pub noted_job_text : NotedJob → List ℕ
noted_job_text job = 32 ∷ (job.file ++ (32 ∷ flag_byte job.always ∷ 32 ∷ job.user))

-- what is after the number
abbrev pub rest_text : Note → List ℕ
rest_text (Noted job) = noted_job_text job
rest_text (Sent number) = []
rest_text (Dropped number) = []

-- the line of a note, without its newline
abbrev pub note_text : Note → List ℕ
note_text note = letter_of_note note ∷ 32 ∷ (digits_of (number_of_note note) ++ rest_text note)

-- the line of a note
abbrev pub note_line : Note → List ℕ
note_line note = note_text note ++ 10 ∷ []

-- the lines of notes
abbrev pub notes_text : List Note → List ℕ
notes_text notes = flat_map note_line notes

-- the file of this name is that of the job of the number, in either form
pub record IsJobFileName (number : ℕ) (file : List ℕ) : Type 0 where
  pub queue : ℕ
  pub minute : ℕ
  pub new_form : Bool
  pub spelled : SpellsJobName file queue number minute new_form

-- the file is that of the job, and the user's name is one
pub record IsNotedJob (job : NotedJob) : Type 0 where
  pub file : IsJobFileName job.number job.file
  pub user : IsUserName job.user

-- the number fits eight digits
abbrev pub Fits : ℕ → Type 0
Fits number = number < 16 ^ 8

-- the note can be in a line
abbrev pub IsNote : Note → Type 0
IsNote (Noted job) = Fits job.number × IsNotedJob job
IsNote (Sent number) = Fits number
IsNote (Dropped number) = Fits number

-- the text after this number is that of the job
pub record IsNotedJobText (number : ℕ) (rest : List ℕ) (job : NotedJob) : Type 0 where
  pub number_is : job.number ≡ number
  pub is : rest ≡ noted_job_text job
  pub of : IsNotedJob job

-- the letter, the number and the text after it are those of the note
pub record IsNoteText (letter number : ℕ) (rest : List ℕ) (note : Note) : Type 0 where
  pub letter_is : letter ≡ letter_of_note note
  pub number_is : number ≡ number_of_note note
  pub rest_is : rest ≡ rest_text note
  pub of : IsNote note

-- the line spells the note
pub record SpellsNote (line : List ℕ) (note : Note) : Type 0 where
  pub is : line ≡ note_text note
  pub of : IsNote note

-- what is at the name of the file of notes holds these: an absent file holds none
abbrev pub HoldsNotes : Option (List ℕ) → List Note → Type 0
HoldsNotes None notes = notes ≡ []
HoldsNotes (Some bytes) notes = bytes ≡ notes_text notes
