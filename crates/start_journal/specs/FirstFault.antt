-- The first fault of a journal (own): slots are looked at from the start, and then what is left after them.
use Rattle.std.specs.Prelude.{◌≡◌, ◌⊎◌, ◌+◌, ◌*◌, ◌≤◌, ◌<◌, true, ℕ, List, Option, Some, None, length, take, drop, slice_get, slice_index}
use Rattle.host_calls.specs.declared.damage.Damage.{Damage}
use Rattle.host_calls.specs.Damages.{damage_at}
use Rattle.start_journal.specs.declared.mark.Mark.{Mark}
use Rattle.start_journal.specs.JournalLaws.{IsLongestPrefix}
use Rattle.start_journal.specs.Journals.{JournalRead, journal_file, nothing_read}
use Rattle.start_journal.specs.Marks.{AreLegalMarks, IsLegalAfter, has_mark_of, is_mark_of}
use Rattle.start_journal.specs.Slots.{SpellsMark}

-- the slot at a place: 32 bytes
abbrev pub slot_at : List ℕ → ℕ → List ℕ
slot_at bytes place = take 32 (drop (32 * place) bytes)

-- the slot at the place is whole, and its gate is open
pub record IsOpenSlot (bytes : List ℕ) (place : ℕ) : Type 0 where
  pub whole : 32 * place + 32 ≤ length bytes
  pub gate : slice_index (slot_at bytes place) 0 ≡ 43

-- No slot before the place has a fault: the first of them spell these marks, which are legal and name numbers
-- that were drawn, and all others are closed.
pub record IsRightBefore (last : ℕ) (bytes : List ℕ) (place : ℕ) (marks : List Mark) : Type 0 where
  pub within : 32 * place ≤ length bytes
  pub few : length marks ≤ place
  pub spelled : (at : ℕ) (mark : Mark) → slice_get marks at ≡ Some mark → SpellsMark (slot_at bytes at) mark
  pub closed : (at : ℕ) → length marks ≤ at → at < place → ¬ IsOpenSlot bytes at
  pub legal : AreLegalMarks marks
  pub drawn : (number : ℕ) → has_mark_of number marks ≡ true → number ≤ last

-- Why the open slot at a place is wrong, after slots of which the first spell these marks, and where in it.
pub data IsWrong (last : ℕ) (marks : List Mark) (place : ℕ) (slot : List ℕ) (offset : ℕ) : Type 0 where
  -- a closed slot comes before it: at its gate
  after_closed : length marks < place → offset ≡ 0 → IsWrong last marks place slot offset
  -- it spells no mark: after the longest prefix that some mark's slot has too
  misspelled : length marks ≡ place → ((mark : Mark) → ¬ SpellsMark slot mark) → IsLongestPrefix slot offset
      → IsWrong last marks place slot offset
  -- its mark is not legal after those before it: at its gate
  not_legal : (mark : Mark) → length marks ≡ place → SpellsMark slot mark → ¬ IsLegalAfter marks mark → offset ≡ 0
      → IsWrong last marks place slot offset
  -- its mark names a number that was not drawn: at its gate
  not_drawn : (mark : Mark) (number : ℕ) → length marks ≡ place → SpellsMark slot mark → is_mark_of number mark ≡ true
      → last < number → offset ≡ 0 → IsWrong last marks place slot offset

-- the first fault is in the open slot at some place
pub record IsSlotFault (last : ℕ) (bytes : List ℕ) (offset : ℕ) : Type 0 where
  pub place : ℕ
  pub marks : List Mark
  pub before : IsRightBefore last bytes place marks
  pub opened : IsOpenSlot bytes place
  pub inside : ℕ
  pub wrong : IsWrong last marks place (slot_at bytes place) inside
  pub offset_is : offset ≡ 32 * place + inside

-- the first fault is a rest of fewer than 32 bytes after all slots: at its first byte
pub record IsRestFault (last : ℕ) (bytes : List ℕ) (offset : ℕ) : Type 0 where
  pub place : ℕ
  pub marks : List Mark
  pub before : IsRightBefore last bytes place marks
  pub offset_is : offset ≡ 32 * place
  pub some : offset < length bytes
  pub few : length bytes < offset + 32

-- the first fault of the journal, where this number was drawn last, is at this offset
abbrev pub IsFirstFault : ℕ → List ℕ → ℕ → Type 0
IsFirstFault last bytes offset = IsSlotFault last bytes offset ⊎ IsRestFault last bytes offset

-- the journal is there, and this is the damage at its first fault
pub record IsJournalDamage (last : ℕ) (content : Option (List ℕ)) (damage : Damage) : Type 0 where
  pub bytes : List ℕ
  pub held : content ≡ Some bytes
  pub fault : IsFirstFault last bytes damage.offset
  pub damage_is : damage ≡ damage_at journal_file bytes damage.offset

-- no slot has a fault, there are as many as marks and free slots together, and nothing is after them
pub record IsRightJournal (last : ℕ) (bytes : List ℕ) (read : JournalRead) : Type 0 where
  pub slots : IsRightBefore last bytes (length read.marks + read.free) read.marks
  pub all : length bytes ≡ 32 * (length read.marks + read.free)

-- the journal gives these marks and free slots; without a file it gives none
abbrev pub GivesJournal : ℕ → Option (List ℕ) → JournalRead → Type 0
GivesJournal last None read = read ≡ nothing_read
GivesJournal last (Some bytes) read = IsRightJournal last bytes read
