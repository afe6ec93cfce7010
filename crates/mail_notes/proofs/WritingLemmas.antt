-- Each note that can be in a line has one.
use Rattle.std.proofs.Common.{◌≡◌, ℕ, ◌<◌, ◌^◌, Bool, true, false, List, ◌∷◌, ◌++◌, refl}
use Rattle.std.specs.Prelude.{◌==◌}
use Rattle.std.specs.Char.{is_ascii_alphanumeric}
use Rattle.text_reader.specs.HexDigits.{digits_of}
use Rattle.text_reader.proofs.DigitLemmas.{are_alphanumeric}
use Rattle.text_reader.proofs.EightDigits.{digits_spelled}
use Rattle.host_calls.specs.Names.{is_name_byte}
use Rattle.job_name.proofs.JobNameLemmas.{job_is_name}
use Rattle.spool_model.specs.Users.{is_user_byte}
use Rattle.record_lines.specs.Lines.{HasNoNewline}
use Rattle.record_lines.proofs.LineLemmas.{both_none, none_of}
use Rattle.mail_notes.specs.declared.note.Note.{Note}
use Rattle.mail_notes.specs.declared.note.Note.TheVariants.{Dropped, Noted, Sent}
use Rattle.mail_notes.specs.declared.note.NotedJob.{NotedJob}
use Rattle.mail_notes.specs.Laws.{NotesCanBeWritten}
use Rattle.mail_notes.specs.Lines.{IsJobFileName, IsNote, IsNotedJob, flag_byte, noted_job_text, note_text, rest_text}
use Rattle.mail_notes.specs.Notes.{number_of_note}

digits_none : (number : ℕ) → number < 16 ^ 8 → HasNoNewline (digits_of number)
digits_none number fits =
    none_of is_ascii_alphanumeric 10 (digits_of number) refl (are_alphanumeric (digits_of number) number (digits_spelled number fits))

file_none : (number : ℕ) (file : List ℕ) → IsJobFileName number file → HasNoNewline file
file_none number file of = none_of is_name_byte 10 file refl (job_is_name file of.queue number of.minute of.new_form of.spelled).each

flag_none : (always : Bool) → (flag_byte always == 10) ≡ false
flag_none true = refl
flag_none false = refl

job_none : (job : NotedJob) → IsNotedJob job → HasNoNewline (noted_job_text job)
job_none job of =
    let user : HasNoNewline job.user = none_of is_user_byte 10 job.user refl of.user.each in
    let tail : HasNoNewline (32 ∷ flag_byte job.always ∷ 32 ∷ job.user) = rw (flag_none job.always, user) refl in
    both_none job.file (32 ∷ flag_byte job.always ∷ 32 ∷ job.user) (file_none job.number job.file of.file) tail

pub fits_of : (note : Note) → IsNote note → number_of_note note < 16 ^ 8
fits_of (Noted job) of = of.0
fits_of (Sent number) of = of
fits_of (Dropped number) of = of

rest_none : (note : Note) → IsNote note → HasNoNewline (rest_text note)
rest_none (Noted job) of = job_none job of.1
rest_none (Sent number) of = refl
rest_none (Dropped number) of = refl

text_none : (note : Note) → HasNoNewline (digits_of (number_of_note note) ++ rest_text note) → HasNoNewline (note_text note)
text_none (Noted job) tail = tail
text_none (Sent number) tail = tail
text_none (Dropped number) tail = tail

pub notes_can_be_written : NotesCanBeWritten
notes_can_be_written note of = record {
  line = note_text note;
  whole = text_none note (both_none (digits_of (number_of_note note)) (rest_text note)
      (digits_none (number_of_note note) (fits_of note of)) (rest_none note of));
  spelled = record { is = refl; of = of };
}
