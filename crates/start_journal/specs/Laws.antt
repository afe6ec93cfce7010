-- What holds of every legal list of marks, and of every slot.
use Rattle.std.specs.Prelude.{◌≡◌, ℕ, List, true, false}
use Rattle.start_journal.specs.declared.mark.Mark.{Mark}
use Rattle.start_journal.specs.declared.stage.Stage.TheVariants.{Fresh}
use Rattle.start_journal.specs.Marks.{AreLegalMarks, is_forgotten, has_mark_of, is_open, is_remembered, kept_marks, last_batch, marks_of}
use Rattle.start_journal.specs.Slots.{SpellsMark}
use Rattle.start_journal.specs.Stages.{AreAllowedFrom}

-- a slot spells one mark
abbrev pub SlotsSpellOneMark : Type 0
SlotsSpellOneMark = (slot : List ℕ) (first second : Mark) → SpellsMark slot first → SpellsMark slot second → first ≡ second

-- a mark has one slot
abbrev pub MarksHaveOneSlot : Type 0
MarksHaveOneSlot = (first second : List ℕ) (mark : Mark) → SpellsMark first mark → SpellsMark second mark → first ≡ second

-- Each number lives once: its marks go through its stages, and none comes twice.
abbrev pub NumbersLiveOnce : Type 0
NumbersLiveOnce = (marks : List Mark) → AreLegalMarks marks → (number : ℕ) → AreAllowedFrom Fresh (marks_of number marks)

-- the kept marks are legal
abbrev pub KeptMarksAreLegal : Type 0
KeptMarksAreLegal = (marks : List Mark) → AreLegalMarks marks → AreLegalMarks (kept_marks marks)

-- what a compaction keeps of a list, and what it drops
pub record KeepsWhatCounts (marks : List Mark) : Type 0 where
  pub open_numbers : (number : ℕ) → is_open number (kept_marks marks) ≡ is_open number marks
  pub remembered : (number : ℕ) → is_remembered number (kept_marks marks) ≡ is_remembered number marks
  pub same_marks : (number : ℕ) → is_forgotten number marks ≡ false → marks_of number (kept_marks marks) ≡ marks_of number marks
  pub gone : (number : ℕ) → is_forgotten number marks ≡ true → has_mark_of number (kept_marks marks) ≡ false
  pub batch : last_batch (kept_marks marks) ≡ last_batch marks

-- the kept marks keep what counts
abbrev pub KeptMarksKeepWhatCounts : Type 0
KeptMarksKeepWhatCounts = (marks : List Mark) → AreLegalMarks marks → KeepsWhatCounts marks
