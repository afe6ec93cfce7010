-- The marks that are saved are legal and can be written.
use Rattle.std.proofs.Common.{◌≡◌, ℕ, Bool, true, false, List, [], ◌∷◌, Option, Some, None, sym, ap, ◌∙◌, refl}
use Rattle.std.specs.Prelude.{if◌then◌else◌}
use Rattle.start_journal.specs.declared.mark.Mark.{Mark}
use Rattle.start_journal.specs.Journals.{JournalRead, are_sound, is_legal_after, nothing_read}
use Rattle.start_journal.specs.SlotBytes.{mark_in}
use Rattle.start_journal.specs.Taken.{legal_mark, marks_taken, read_past, slots_of, with_taken}
use Rattle.start_journal.proofs.ByteLemmas.{spells, writable_tested}
use Rattle.start_journal.proofs.ReadLemmas.{IsSound, sound_more, sound_tested}
use Rattle.spool_faults.proofs.JournalFirst.{past_all, read_marks}

-- one slot more keeps the marks sound
one_sound : (marks : List Mark) (slot : List ℕ) → IsSound marks → IsSound (with_taken marks (legal_mark marks (mark_in slot)))
one_sound marks slot sound = by_mark (mark_in slot) refl where
  by_legal : (mark : Mark) (legal : Bool) → mark_in slot ≡ Some mark → is_legal_after marks mark ≡ legal
      → IsSound (with_taken marks (if legal then Some mark else None))
  by_legal mark true found legal = sound_more marks mark sound legal (writable_tested mark (spells slot mark found).writable)
  by_legal mark false found legal = sound

  by_mark : (found : Option Mark) → mark_in slot ≡ found → IsSound (with_taken marks (legal_mark marks found))
  by_mark None is = sound
  by_mark (Some mark) is = by_legal mark (is_legal_after marks mark) is refl

past_sound : (read : JournalRead) (slots : List (List ℕ)) → IsSound read.marks → IsSound (past_all read slots).marks
past_sound read [] sound = sound
past_sound read (slot ∷ later) sound = past_sound (read_past read slot) later (one_sound read.marks slot sound)

-- the marks that are taken of any journal are legal and can be written
pub taken_sound : (content : Option (List ℕ)) → are_sound (marks_taken content) ≡ true
taken_sound None = ap are_sound (sym (read_marks None))
taken_sound (Some bytes) =
    ap are_sound (sym (read_marks (Some bytes)))
    ∙ sound_tested (past_all nothing_read (slots_of bytes)).marks
    (past_sound nothing_read (slots_of bytes) (record { legal = refl; writable = refl }))
