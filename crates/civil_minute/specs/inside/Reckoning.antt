-- What the parts of the reckoning give: a clock as `jiff` shows it, the days to a weekday, and an instant
-- that no clock shows.
use Rattle.std.specs.Prelude.{◌≡◌, ◌+◌, ◌-◌, ◌%◌, ◌==◌, ◌&&◌, ◌+ℤ◌, ℕ, ℤ, Bool, if◌then◌else◌}
use Rattle.jiff.specs.Types.{DateTime}
use Rattle.jiff.specs.Words.{civil_seconds, weekday_of}
use Rattle.host_calls.specs.ClockRange.{IsClockSecond}
use Rattle.civil_minute.specs.Meant.{IsInstantOf}
use Rattle.civil_minute.specs.Zone.{offset_in}
use Rattle.civil_minute.specs.declared.civil.CivilMinute.{CivilMinute}
use Rattle.civil_minute.specs.declared.zone.Zone.{Zone}

-- what a clock in the zone shows at a second, as a date with a time of `jiff`, to the whole second
pub record IsLocalTime (zone : Zone) (at : ℤ) (local : DateTime) : Type 0 where
  pub shows : civil_seconds local ≡ at +ℤ offset_in zone at
  pub whole : local.time.subsec_nanosecond ≡ 0

-- a date with a time of `jiff` has these fields
pub record HasFields (local : DateTime) (civil : CivilMinute) : Type 0 where
  pub year : civil.year ≡ local.date.year
  pub month : civil.month ≡ local.date.month
  pub day : civil.day ≡ local.date.day
  pub hour : civil.hour ≡ local.time.hour
  pub minute : civil.minute ≡ local.time.minute
  pub second : civil.second ≡ local.time.second
  pub weekday : civil.weekday ≡ (weekday_of local.date + 1) % 7

-- how many days after a weekday another one is, a week where they are the same and its time passed
abbrev pub days_ahead : ℕ → ℕ → Bool → ℕ
days_ahead weekday today passed =
    if (weekday == today) && passed then 7 else (weekday + 7 - today) % 7

-- the instant of a day and a time of day in the zone lies outside of the clock's range
pub record LeavesRange (zone : Zone) (day : ℤ) (given : ℕ) : Type 0 where
  pub start : ℤ
  pub instant : IsInstantOf zone day given start
  pub outside : ¬ (IsClockSecond start)
