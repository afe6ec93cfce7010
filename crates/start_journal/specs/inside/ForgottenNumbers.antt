-- The numbers that marks forget, as a set (own), and what is kept next to it.
use Rattle.std.specs.Prelude.{◌≡◌, ℕ, Bool, true, false, not, List, Option, Some, None}
use Rattle.std.specs.BTreeSet.{BTreeSet, contains}
use Rattle.std.specs.Ordering.{nat_cmp}
use Rattle.start_journal.specs.declared.mark.Mark.{Mark}
use Rattle.start_journal.specs.declared.mark.Mark.TheVariants.{Forgotten}
use Rattle.start_journal.specs.Marks.{is_forgotten, number_of_mark}

-- the set has the number
abbrev pub has_gone_number : BTreeSet ℕ → ℕ → Bool
has_gone_number gone number = contains nat_cmp gone number

-- the set has the numbers that the marks forget
abbrev pub AreForgotten : List Mark → BTreeSet ℕ → Type 0
AreForgotten marks gone = (number : ℕ) → has_gone_number gone number ≡ is_forgotten number marks

-- there is a number, and the set lacks it
abbrev pub is_other : BTreeSet ℕ → Option ℕ → Bool
is_other gone (Some number) = not (has_gone_number gone number)
is_other gone None = false

-- the mark names a number that the set lacks
abbrev pub is_kept_beside : BTreeSet ℕ → Mark → Bool
is_kept_beside gone mark = is_other gone (number_of_mark mark)

-- there is a number, and the set has it
abbrev pub is_among : BTreeSet ℕ → Option ℕ → Bool
is_among gone (Some number) = has_gone_number gone number
is_among gone None = false

-- the mark forgets a number
abbrev pub forgets_one : Mark → Bool
forgets_one (Forgotten number) = true
forgets_one _ = false
