-- What a list of marks says (own): which lists are legal, what became of each number, and what a
-- compaction keeps.
use Rattle.std.specs.Prelude.{◌≡◌, ◌==◌, ◌&&◌, ◌++◌, [], ◌∷◌, ℕ, ℤ, Bool, true, false, not, List, Option, Some, None, if◌then◌else◌}
use Rattle.std.specs.List.{filter, list_any}
use Rattle.std.specs.Option.{option_or}
use Rattle.spool_model.specs.JobTable.{is_batch_queue}
use Rattle.start_journal.specs.declared.mark.Mark.{Mark}
use Rattle.start_journal.specs.declared.mark.Mark.TheVariants.{Removed, Started, Ended, Interrupted, Forgotten, Batch}

-- the number that the mark names, if it names one
abbrev pub number_of_mark : Mark → Option ℕ
number_of_mark (Removed number) = Some number
number_of_mark (Started number queue second) = Some number
number_of_mark (Ended number ending) = Some number
number_of_mark (Interrupted number) = Some number
number_of_mark (Forgotten number) = Some number
number_of_mark (Batch second) = None

-- the mark names the number
abbrev pub is_mark_of : ℕ → Mark → Bool
is_mark_of number (Removed other) = other == number
is_mark_of number (Started other queue second) = other == number
is_mark_of number (Ended other ending) = other == number
is_mark_of number (Interrupted other) = other == number
is_mark_of number (Forgotten other) = other == number
is_mark_of number (Batch second) = false

-- the mark is the start of the number
abbrev pub is_start_of : ℕ → Mark → Bool
is_start_of number (Started other queue second) = other == number
is_start_of number _ = false

-- the mark is the end of the number, or gives it up
abbrev pub is_end_of : ℕ → Mark → Bool
is_end_of number (Ended other ending) = other == number
is_end_of number (Interrupted other) = other == number
is_end_of number _ = false

-- the mark decides the number
abbrev pub decides : ℕ → Mark → Bool
decides number (Removed other) = other == number
decides number (Ended other ending) = other == number
decides number (Interrupted other) = other == number
decides number _ = false

-- the mark forgets the number
abbrev pub is_forgetting : ℕ → Mark → Bool
is_forgetting number (Forgotten other) = other == number
is_forgetting number _ = false

-- some mark names the number, starts it, ends it, decides it or forgets it
abbrev pub has_mark_of : ℕ → List Mark → Bool
has_mark_of number marks = list_any (is_mark_of number) marks

abbrev pub has_start_of : ℕ → List Mark → Bool
has_start_of number marks = list_any (is_start_of number) marks

abbrev pub is_ended : ℕ → List Mark → Bool
is_ended number marks = list_any (is_end_of number) marks

abbrev pub is_decided : ℕ → List Mark → Bool
is_decided number marks = list_any (decides number) marks

abbrev pub is_forgotten : ℕ → List Mark → Bool
is_forgotten number marks = list_any (is_forgetting number) marks

-- The mark is legal after those before it.
abbrev pub IsLegalAfter : List Mark → Mark → Type 0
IsLegalAfter before (Removed number) = has_mark_of number before ≡ false
IsLegalAfter before (Started number queue second) = has_mark_of number before ≡ false
IsLegalAfter before (Ended number ending) = (has_start_of number before ≡ true) × (is_ended number before ≡ false)
IsLegalAfter before (Interrupted number) = (has_start_of number before ≡ true) × (is_ended number before ≡ false)
IsLegalAfter before (Forgotten number) = (is_decided number before ≡ true) × (is_forgotten number before ≡ false)
IsLegalAfter before (Batch second) = Unit {0}

-- the marks are legal, one after the other, after those before them
abbrev pub AreLegalMarksAfter : List Mark → List Mark → Type 0
AreLegalMarksAfter before [] = Unit {0}
AreLegalMarksAfter before (mark ∷ later) = IsLegalAfter before mark × AreLegalMarksAfter (before ++ mark ∷ []) later

-- each mark is legal after those before it
abbrev pub AreLegalMarks : List Mark → Type 0
AreLegalMarks marks = AreLegalMarksAfter [] marks

-- the marks that name the number, in their order
abbrev pub marks_of : ℕ → List Mark → List Mark
marks_of number marks = filter (is_mark_of number) marks

-- the number is started and not finished
abbrev pub is_open : ℕ → List Mark → Bool
is_open number marks = has_start_of number marks && not (is_decided number marks)

-- the number is finished, and not forgotten
abbrev pub is_remembered : ℕ → List Mark → Bool
is_remembered number marks = is_decided number marks && not (is_forgotten number marks)

-- the second at which the mark starts the number
abbrev pub start_second : ℕ → Mark → Option ℤ
start_second number (Started other queue second) = if other == number then Some second else None
start_second number (Removed other) = None
start_second number (Ended other ending) = None
start_second number (Interrupted other) = None
start_second number (Forgotten other) = None
start_second number (Batch second) = None

-- the second at which the number was started, if it was
abbrev pub started_at : ℕ → List Mark → Option ℤ
started_at number [] = None
started_at number (mark ∷ later) = option_or (start_second number mark) (started_at number later)

-- the second of a mark that starts a job of a batch queue
abbrev pub batch_second : Mark → Option ℤ
batch_second (Started number queue second) = if is_batch_queue queue then Some second else None
batch_second (Batch second) = Some second
batch_second _ = None

-- the first of two, if there is one, else the second
abbrev pub first_of_two : Option ℤ → Option ℤ → Option ℤ
first_of_two (Some second) other = Some second
first_of_two None other = other

-- the second of the last mark that starts a job of a batch queue
abbrev pub last_batch : List Mark → Option ℤ
last_batch [] = None
last_batch (mark ∷ later) = first_of_two (last_batch later) (batch_second mark)

-- the mark names a number, and no mark of the list forgets it
abbrev pub is_kept : List Mark → Mark → Bool
is_kept marks (Removed number) = not (is_forgotten number marks)
is_kept marks (Started number queue second) = not (is_forgotten number marks)
is_kept marks (Ended number ending) = not (is_forgotten number marks)
is_kept marks (Interrupted number) = not (is_forgotten number marks)
is_kept marks (Forgotten number) = not (is_forgotten number marks)
is_kept marks (Batch second) = false

-- a mark of the last batch start, if there was one
abbrev pub batch_mark : Option ℤ → List Mark
batch_mark (Some second) = Batch second ∷ []
batch_mark None = []

-- what a compaction keeps: the marks of numbers that are not forgotten, and the last batch start
abbrev pub kept_marks : List Mark → List Mark
kept_marks marks = filter (is_kept marks) marks ++ batch_mark (last_batch marks)
