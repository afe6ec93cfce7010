-- Which notes a trim keeps (own): those of jobs that wait for their notices, and those of jobs that are not done.
use Rattle.std.specs.Prelude.{◌&&◌, ◌||◌, ℕ, Bool, false, List, Option, None, Some, filter, nat_le, not}
use Rattle.spool_model.specs.JobTable.{JobEntry, JobTable, entry_at}
use Rattle.spool_model.specs.Lists.{is_live}
use Rattle.mail_notes.specs.declared.note.Note.{Note}
use Rattle.mail_notes.specs.Notes.{has_closing_note, number_of_note}

-- the entry is that of a live job
abbrev pub is_of_live : Option JobEntry → Bool
is_of_live None = false
is_of_live (Some entry) = is_live entry

-- the job of the number is live in the table
abbrev pub is_live_in : JobTable → ℕ → Bool
is_live_in table number = is_of_live (entry_at table number)

-- the number was drawn, and its job is not live
abbrev pub is_over : JobTable → ℕ → Bool
is_over table number = nat_le number table.last && not (is_live_in table number)

-- the note stays: the notice of its job was neither sent nor dropped, or the job is not over
abbrev pub stays : JobTable → List Note → Note → Bool
stays table notes note = not (has_closing_note (number_of_note note) notes) || not (is_over table (number_of_note note))

-- the notes that stay, in their order
abbrev pub trimmed : JobTable → List Note → List Note
trimmed table notes = filter (stays table notes) notes
