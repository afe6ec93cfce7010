-- Civil time: what a clock in a zone shows. Leap seconds are left out.
use Rattle.std.specs.Prelude.{◌≡◌, ◌+◌, ◌*◌, ◌%◌, ◌≤◌, ◌+ℤ◌, ◌*ℤ◌, ℕ, ℤ, pos}
use Rattle.std.specs.Int.{IsInRange}
use Rattle.jiff_core.specs.Calendar.{IsBetween, IsCivilDate, days_from_civil, weekday_number}
use Rattle.civil_minute.specs.Zone.{offset_in}
use Rattle.civil_minute.specs.declared.civil.CivilMinute.{CivilMinute}
use Rattle.civil_minute.specs.declared.civil.TheConstants.{LAST_YEAR, SECONDS_A_DAY, SECONDS_AN_HOUR}
use Rattle.civil_minute.specs.declared.zone.Zone.{Zone}

-- the day number of a civil time, which is 0 for 1 January 1970
abbrev pub day_of : CivilMinute → ℤ
day_of civil = days_from_civil civil.year civil.month civil.day

-- its seconds since midnight
abbrev pub second_of_day : CivilMinute → ℕ
second_of_day civil = civil.hour * SECONDS_AN_HOUR + civil.minute * 60 + civil.second

-- its time of day is one that a clock shows
pub record IsClockTime (civil : CivilMinute) : Type 0 where
  pub hour : civil.hour ≤ 23
  pub minute : civil.minute ≤ 59
  pub second : civil.second ≤ 59

-- what a clock in the zone shows at a second since 1970: a day of the calendar and a time of day
-- that lie as many seconds ahead of the second as the zone is ahead of UTC then, and the day's
-- weekday, counted from Sunday
pub record IsCivilTime (zone : Zone) (at : ℤ) (civil : CivilMinute) : Type 0 where
  pub date : IsCivilDate civil.year civil.month civil.day
  pub time : IsClockTime civil
  pub shows : day_of civil *ℤ pos SECONDS_A_DAY +ℤ pos (second_of_day civil) ≡ at +ℤ offset_in zone at
  pub weekday : civil.weekday ≡ (weekday_number (day_of civil) + 1) % 7

-- each field has the width that it is printed in
pub record IsPrintable (civil : CivilMinute) : Type 0 where
  pub year : IsBetween (pos 1_000) (pos LAST_YEAR) civil.year
  pub month : IsInRange 1 12 civil.month
  pub day : IsInRange 1 31 civil.day
  pub time : IsClockTime civil
  pub weekday : civil.weekday ≤ 6
