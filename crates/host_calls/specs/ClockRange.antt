-- The range of the clock (own): the seconds of 1970 to 9998 in UTC, and their minutes.
use Rattle.std.specs.Prelude.{◌≤◌, ◌≤ℤ◌, ◌/◌, ℕ, ℤ, pos, negsuc, Bool, false, nat_le, unsigned_abs}
use Rattle.host_calls.specs.declared.clock_seconds.TheConstants.{LAST_MINUTE, LAST_SECOND}

-- a second that a clock may show
pub record IsClockSecond (second : ℤ) : Type 0 where
  pub low : pos 0 ≤ℤ second
  pub high : second ≤ℤ LAST_SECOND

-- the same as a test
abbrev pub is_clock_second : ℤ → Bool
is_clock_second (pos second) = nat_le second (unsigned_abs LAST_SECOND)
is_clock_second (negsuc second) = false

-- a minute that such a second can lie in
abbrev pub IsClockMinute : ℕ → Type 0
IsClockMinute minute = minute ≤ LAST_MINUTE

-- the minute of a second, both counted from 1970; a second before that has none, and counts as the first
abbrev pub minute_at : ℤ → ℕ
minute_at (pos second) = second / 60
minute_at (negsuc second) = 0
