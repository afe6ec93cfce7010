-- What holds of the bytes of every journal.
use Rattle.std.specs.Prelude.{◌≡◌, ◌≤◌, ℕ, true, List, Some, Ok}
use Rattle.start_journal.specs.declared.mark.Mark.{Mark}
use Rattle.start_journal.specs.Journals.{SpellsJournal, are_drawn, journal_in}
use Rattle.start_journal.specs.Marks.{AreLegalMarks}
use Rattle.start_journal.specs.SlotBytes.{HasSlotPrefix, mark_in, right_prefix}
use Rattle.start_journal.specs.Slots.{SpellsMark}

-- a slot gives a mark exactly where it spells it
pub record GivesItsMark (slot : List ℕ) (mark : Mark) : Type 0 where
  pub spelled : mark_in slot ≡ Some mark → SpellsMark slot mark
  pub given : SpellsMark slot mark → mark_in slot ≡ Some mark

abbrev pub SlotsGiveTheirMarks : Type 0
SlotsGiveTheirMarks = (slot : List ℕ) (mark : Mark) → GivesItsMark slot mark

-- some mark's slot has so many of the first bytes too, and none has more of them
pub record IsLongestPrefix (slot : List ℕ) (count : ℕ) : Type 0 where
  pub prefix : HasSlotPrefix slot count
  pub longest : (more : ℕ) → HasSlotPrefix slot more → more ≤ count

-- the right prefix of a slot is its longest prefix that some mark's slot has too
abbrev pub RightPrefixesAreLongest : Type 0
RightPrefixesAreLongest = (slot : List ℕ) → IsLongestPrefix slot (right_prefix slot)

-- a journal that was placed whole reads back, where its marks are legal and name drawn numbers
abbrev pub JournalsReadBack : Type 0
JournalsReadBack =
    (last : ℕ) (bytes : List ℕ) (marks : List Mark) (free : ℕ) → SpellsJournal bytes marks free → AreLegalMarks marks
    → are_drawn last marks ≡ true → journal_in last (Some bytes) ≡ Ok (record { marks = marks; free = free })
