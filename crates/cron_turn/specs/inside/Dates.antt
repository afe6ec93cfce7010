-- Dates on which an entry is not due, and the first minute at which it is (own).
use Rattle.std.specs.Prelude.{◌≡◌, ◌≤◌, ◌<◌, ◌+◌, ◌%◌, ◌-ℤ◌, ℕ, ℤ, pos, Option, Some, None, false}
use Rattle.jiff_core.specs.Calendar.{IsCivilDate, weekday_number}
use Rattle.jiff_core.specs.Date.{weekday_of}
use Rattle.jiff_core.specs.declared.civil.date.Date.{Date}
use Rattle.civil_minute.specs.Civil.{day_of}
use Rattle.civil_minute.specs.declared.civil.CivilMinute.{CivilMinute}
use Rattle.civil_minute.specs.declared.zone.Zone.{Zone}
use Rattle.cron_text.specs.declared.entry.CronEntry.{CronEntry}
use Rattle.cron_minutes.specs.Due.{is_date_due}
use Rattle.cron_turn.specs.Schedule.{IsDueWithin, IsNotDueWithin}

-- the civil time is one of the date
pub record HasDate (date : Date) (civil : CivilMinute) : Type 0 where
  pub month : civil.month ≡ date.month
  pub day : civil.day ≡ date.day
  pub weekday : civil.weekday ≡ (weekday_of date + 1) % 7

-- it is one of the date with the day number
pub record IsOnDay (day : ℤ) (civil : CivilMinute) : Type 0 where
  pub date : IsCivilDate civil.year civil.month civil.day
  pub numbered : day_of civil ≡ day
  pub weekday : civil.weekday ≡ (weekday_number day + 1) % 7

-- the entry is due at no time of that date
abbrev pub IsIdleDate : CronEntry → ℤ → Type 0
IsIdleDate entry day = (civil : CivilMinute) → IsOnDay day civil → is_date_due entry civil ≡ false

-- nor on any date from one on up to another, both counted from the second day before the first of 1970
abbrev pub AreIdleDates : CronEntry → ℕ → ℕ → Type 0
AreIdleDates entry first end = (date : ℕ) → first ≤ date → date < end → IsIdleDate entry (pos date -ℤ pos 2)

-- the first minute up to the end at which the entry is due, if there is one
abbrev pub IsFirstDue : Zone → CronEntry → ℕ → ℕ → Option ℕ → Type 0
IsFirstDue zone entry from end (Some minute) = IsDueWithin zone entry from end minute × IsNotDueWithin zone entry from minute
IsFirstDue zone entry from end None = IsNotDueWithin zone entry from end
