-- How the store and the book tell which notes stay.
use Rattle.std.proofs.Common.{◌≡◌, true, false, List, ℕ, refl, ap}
use Rattle.std.specs.Prelude.{Option, Some, None}
use Rattle.spool_model.specs.declared.entry.Entry.TheVariants.{Done, Live}
use Rattle.spool_model.specs.declared.row.Row.{Row}
use Rattle.spool_model.specs.JobTable.{JobEntry, JobTable, entry_at}
use Rattle.spool_store.specs.Listed.{IsLive, IsRowOf}
use Rattle.record_lines.proofs.SayingLemmas.{none_says}
use Rattle.mail_notes.specs.Book.{IsNoticeStateAt}
use Rattle.mail_notes.specs.declared.note.Note.{Note}
use Rattle.mail_notes.specs.Notes.{has_closing_note, is_closing_note, is_note_of}
use Rattle.at_mail.specs.TrimmedNotes.{is_live_in, is_of_live}

-- a number with a row is live
pub live_row : (table : JobTable) (number : ℕ) (row : Row) → IsRowOf table number row → is_live_in table number ≡ true
live_row table number row is = ap is_of_live is.held

-- and one without is not
not_live : (entry : Option JobEntry) (number : ℕ) (table : JobTable) → entry_at table number ≡ entry → (IsLive table number → ⊥)
    → is_of_live entry ≡ false
not_live None number table is none = refl
not_live (Some (Done fate)) number table is none = refl
not_live (Some (Live job state)) number table is none = absurd (none (job, state, is))

pub no_row : (table : JobTable) (number : ℕ) → (IsLive table number → ⊥) → is_live_in table number ≡ false
no_row table number none = not_live (entry_at table number) number table refl none

-- the state of a number says whether its notice was sent or dropped
pub open_none : (notes : List Note) (number : ℕ) → IsNoticeStateAt notes number None → has_closing_note number notes ≡ false
open_none notes number none = none_says (is_note_of number) is_closing_note notes none
