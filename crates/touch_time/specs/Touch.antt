-- The spelling of a time of `at -t`: `[[CC]YY]MMDDhhmm[.SS]` (POSIX, XCU touch).
use Rattle.std.specs.Prelude.{◌≡◌, ◌+◌, ◌/◌, ◌%◌, ◌≤◌, ◌++◌, [], ◌∷◌, ℕ, List, Option, Some, None, codes}
use Rattle.std.specs.Int.{IsInRange}
use Rattle.touch_time.specs.declared.touch.TouchTime.{TouchTime}

-- a number below 100, in two digits
abbrev pub two_digits : ℕ → List ℕ
two_digits number = (48 + number / 10) ∷ (48 + number % 10) ∷ []

-- a year is left out, or spelled by its last two digits, which then stand for a year from 1969 to
-- 2068, or by all four
pub data SpellsYear : List ℕ → Option ℕ → Type 0 where
  no_year : SpellsYear [] None
  short_year : (year : ℕ) → IsInRange 1969 2068 year → SpellsYear (two_digits (year % 100)) (Some year)
  full_year : (year : ℕ) → year ≤ 9999
      → SpellsYear (two_digits (year / 100) ++ two_digits (year % 100)) (Some year)

-- seconds may be spelled after a point; they are 60 at most, and count for nothing (own)
pub data SpellsSeconds : List ℕ → Type 0 where
  no_seconds : SpellsSeconds []
  some_seconds : (second : ℕ) → second ≤ 60 → SpellsSeconds (codes "." ++ two_digits second)

-- the text spells the time
pub record SpellsTouch (text : List ℕ) (time : TouchTime) : Type 0 where
  pub year : List ℕ
  pub seconds : List ℕ
  pub spelled : text ≡ year ++ two_digits time.month ++ two_digits time.day
      ++ two_digits time.hour ++ two_digits time.minute ++ seconds
  pub year_spelled : SpellsYear year time.year
  pub seconds_spelled : SpellsSeconds seconds
  pub month : IsInRange 1 12 time.month
  pub day : IsInRange 1 31 time.day
  pub hour : time.hour ≤ 23
  pub minute : time.minute ≤ 59
