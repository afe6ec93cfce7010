-- A journal of which most no longer counts (own).
use Rattle.std.specs.Prelude.{◌*◌, ◌&&◌, ℕ, Bool, false, List, Option, Some, None, count_by, length, nat_le, nat_lt}
use Rattle.start_journal.specs.declared.mark.Mark.{Mark}
use Rattle.start_journal.specs.declared.compaction.TheConstants.{COMPACTION_SLOTS}
use Rattle.start_journal.specs.Marks.{is_forgotten, number_of_mark}

-- there is a number, and the marks forget it
abbrev pub is_gone : List Mark → Option ℕ → Bool
is_gone marks (Some number) = is_forgotten number marks
is_gone marks None = false

-- how many of the marks name a number that is forgotten
abbrev pub gone_count : List Mark → ℕ
gone_count marks = count_by (λ mark. is_gone marks (number_of_mark mark)) marks

-- there are many marks, and more than half of them name forgotten numbers
abbrev pub wants_compaction : List Mark → Bool
wants_compaction marks = nat_le COMPACTION_SLOTS (length marks) && nat_lt (length marks) (2 * gone_count marks)
