-- The notes of a directory as they are read (own).
use Rattle.std.specs.Prelude.{◌≡◌, [], ℕ, List, Option, Some, None}
use Rattle.host_calls.specs.declared.damage.Damage.{Damage}
use Rattle.host_calls.specs.Damages.{damage_at}
use Rattle.record_lines.specs.Lines.{AreRecordLines, IsFirstBadLine}
use Rattle.mail_notes.specs.Book.{AreStatesOfNotes}
use Rattle.mail_notes.specs.declared.notice_states.NoticeStates.{NoticeStates}
use Rattle.mail_notes.specs.declared.note.Note.{Note}
use Rattle.mail_notes.specs.Lines.{SpellsNote}
use Rattle.mail_notes.specs.Names.{mail_file}
use Rattle.mail_notes.specs.Notes.{IsNoteAllowed}

-- the text is that of notes, each of which may come after those before it, and the book is theirs
pub record IsReadBook (text : List ℕ) (notice_states : NoticeStates) : Type 0 where
  pub notes : List Note
  pub lines : AreRecordLines SpellsNote IsNoteAllowed text notes
  pub told : AreStatesOfNotes notes notice_states

-- the text is that of the file of notes; an absent file has none
abbrev pub IsTextOf : Option (List ℕ) → List ℕ → Type 0
IsTextOf None text = text ≡ []
IsTextOf (Some bytes) text = text ≡ bytes

-- the file of notes with these bytes is damaged so: at the first byte of its first bad line
pub record IsDamageAt (bytes : List ℕ) (damage : Damage) : Type 0 where
  pub place : ℕ
  pub bad : IsFirstBadLine SpellsNote IsNoteAllowed bytes place
  pub is : damage ≡ damage_at mail_file bytes place

-- and one that is absent is not damaged
abbrev pub IsDamageOf : Option (List ℕ) → Damage → Type 0
IsDamageOf None damage = ⊥
IsDamageOf (Some bytes) damage = IsDamageAt bytes damage
