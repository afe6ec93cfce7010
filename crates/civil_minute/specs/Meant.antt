-- The minute that a time means (POSIX.1-2017, XCU, at). Own are: that a time equal to now's means
-- today, the weekdays, the last day of a month that lacks the day, gaps and folds, and that minutes
-- and hours are added to the instant.
use Rattle.std.specs.Prelude.{◌≡◌, ◌⊎◌, ◌+◌, ◌*◌, ◌%◌, ◌<◌, ◌≤◌, nat_lt, nat_le, ◌+ℤ◌, ◌-ℤ◌, ◌*ℤ◌, ◌<ℤ◌, ◌≤ℤ◌, pos, ℕ, ℤ, Bool, true, false, not, if◌then◌else◌, Option, Some, None, Result, Ok, Err, IfSome, ⊤}
use Rattle.jiff.specs.Types.{Date, DateTime}
use Rattle.jiff.specs.Words.{epoch_day, civil_seconds, add_months, ambiguous_at, compatible_offset, IsEpochDay}
use Rattle.jiff_core.specs.Calendar.{IsCivilDate, weekday_number}
use Rattle.timespec_lexer.specs.declared.period.Period.{Period}
use Rattle.timespec_lexer.specs.declared.period.Period.TheVariants.{Minute, Hour, Day, Week, Month, Year}
use Rattle.timespec_grammar.specs.declared.clock.Clock.{Clock}
use Rattle.timespec_grammar.specs.declared.clock.Clock.TheVariants.{Now, At}
use Rattle.timespec_grammar.specs.declared.date.DatePart.{DatePart}
use Rattle.timespec_grammar.specs.declared.date.DatePart.TheVariants.{Absent, MonthDay, Weekday, Today, Tomorrow}
use Rattle.timespec_grammar.specs.declared.increment.Increment.{Increment}
use Rattle.timespec_grammar.specs.declared.timespec.Timespec.{Timespec}
use Rattle.touch_time.specs.declared.touch.TouchTime.{TouchTime}
use Rattle.host_calls.specs.ClockRange.{IsClockSecond, minute_at}
use Rattle.civil_minute.specs.Zone.{offset_in, rules_of}
use Rattle.civil_minute.specs.declared.civil.TheConstants.{LAST_YEAR, SECONDS_A_DAY, SECONDS_AN_HOUR}
use Rattle.civil_minute.specs.declared.fault.DateFault.{DateFault}
use Rattle.civil_minute.specs.declared.fault.DateFault.TheVariants.{NoSuchDay, OutOfRange, Past}
use Rattle.civil_minute.specs.declared.zone.Zone.{Zone}
use Rattle.civil_minute.specs.declared.zone.Zone.TheVariants.{Utc}

-- the clock in the zone shows this date now, and so many seconds since midnight
pub record ShowsNow (zone : Zone) (now : ℤ) (today : Date) (time : ℕ) : Type 0 where
  pub shows : epoch_day today *ℤ pos SECONDS_A_DAY +ℤ pos time ≡ now +ℤ offset_in zone now
  pub within : time < SECONDS_A_DAY

-- UTC where the time names it, else the zone of the caller
abbrev pub zone_meant : Clock → Zone → Zone
zone_meant Now zone = zone
zone_meant (At hour minute utc) zone = if utc then Utc else zone

-- the given time of day in seconds: `now` keeps that of now, every other time has no seconds
abbrev pub given_second : Clock → ℕ → ℕ
given_second Now time = time
given_second (At hour minute utc) time = hour * SECONDS_AN_HOUR + minute * 60

-- the year of a month: the given one, else this year, or the next where the month is before the
-- current one
abbrev pub year_of_month : Option ℕ → ℕ → Date → ℤ
year_of_month (Some year) month today = pos year
year_of_month None month today =
    if nat_lt month today.month then today.year +ℤ pos 1 else today.year

-- the year of a time of `-t`: the given one, else this year
abbrev pub year_of_touch : Option ℕ → Date → ℤ
year_of_touch (Some year) today = pos year
year_of_touch None today = today.year

-- the date is the day of this year and month
pub record IsDateOf (year : ℤ) (month day : ℕ) (date : Date) : Type 0 where
  pub same_year : date.year ≡ year
  pub same_month : date.month ≡ month
  pub same_day : date.day ≡ day

-- the day has the weekday, and it is after today, or it is today and the given time is after now's
pub record IsAwaited (weekday given : ℕ) (today : ℤ) (time : ℕ) (day : ℤ) : Type 0 where
  pub named : (weekday_number day + 1) % 7 ≡ weekday
  pub ahead : (today <ℤ day) ⊎ ((day ≡ today) × (time < given))

-- the first such day
pub record IsFirstAwaited (weekday given : ℕ) (today : ℤ) (time : ℕ) (day : ℤ) : Type 0 where
  pub awaited : IsAwaited weekday given today time day
  pub first : (other : ℤ) → IsAwaited weekday given today time other → day ≤ℤ other

-- the date that is picked, where now is this date and time of day
abbrev pub IsPicked : DatePart → ℕ → Date → ℕ → Date → Type 0
IsPicked Absent given today time date =
    epoch_day date ≡ (if nat_le time given then epoch_day today else epoch_day today +ℤ pos 1)
IsPicked (MonthDay month day year) given today time date =
    IsDateOf (year_of_month year month today) month day date
IsPicked (Weekday weekday) given today time date =
    IsFirstAwaited weekday given (epoch_day today) time (epoch_day date)
IsPicked Today given today time date = epoch_day date ≡ epoch_day today
IsPicked Tomorrow given today time date = epoch_day date ≡ epoch_day today +ℤ pos 1

-- no day has the given month and day
abbrev pub NamesNoDay : DatePart → Date → Type 0
NamesNoDay (MonthDay month day year) today =
    ¬ (IsCivilDate (year_of_month year month today) month day)
NamesNoDay _ today = ⊥

-- the day number so many periods after a date; a month that lacks the day gives its last one
abbrev pub day_after : Period → ℕ → Date → ℤ
day_after Minute count date = epoch_day date
day_after Hour count date = epoch_day date
day_after Day count date = epoch_day date +ℤ pos count
day_after Week count date = epoch_day date +ℤ pos (7 * count)
day_after Month count date = add_months date (pos count)
day_after Year count date = add_months date (pos (12 * count))

-- the day number after the days, weeks, months and years of an increment
abbrev pub later_day : Option Increment → Date → ℤ
later_day None date = epoch_day date
later_day (Some later) date = day_after later.period later.count date

-- the seconds of so many minutes or hours
abbrev pub seconds_of : Period → ℕ → ℕ
seconds_of Minute count = 60 * count
seconds_of Hour count = SECONDS_AN_HOUR * count
seconds_of Day count = 0
seconds_of Week count = 0
seconds_of Month count = 0
seconds_of Year count = 0

-- the seconds that the minutes and hours of an increment add to the instant
abbrev pub later_seconds : Option Increment → ℕ
later_seconds None = 0
later_seconds (Some later) = seconds_of later.period later.count

-- the increment moves the date
abbrev pub is_calendar_period : Period → Bool
is_calendar_period Minute = false
is_calendar_period Hour = false
is_calendar_period Day = true
is_calendar_period Week = true
is_calendar_period Month = true
is_calendar_period Year = true

-- the time is the instant now itself: `now` without days, weeks, months and years
abbrev pub is_instant : Clock → Option Increment → Bool
is_instant Now None = true
is_instant Now (Some later) = not (is_calendar_period later.period)
is_instant (At hour minute utc) later = false

-- how far the zone is ahead of UTC at a civil time, and before the change in a gap or a fold
abbrev pub offset_before : Zone → DateTime → ℤ
offset_before zone local = (compatible_offset (ambiguous_at (rules_of zone) local)).seconds

-- the instant of a day and a time of day in the zone: in a gap the later of the two that the
-- offsets give, in a fold the earlier
pub record IsInstantOf (zone : Zone) (day : ℤ) (given : ℕ) (start : ℤ) : Type 0 where
  pub local : DateTime
  pub shows : civil_seconds local ≡ day *ℤ pos SECONDS_A_DAY +ℤ pos given
  pub whole : local.time.subsec_nanosecond ≡ 0
  pub after : start ≡ civil_seconds local -ℤ offset_before zone local

-- the instant to which minutes and hours are added
abbrev pub IsBaseInstant : Bool → Zone → ℤ → ℤ → ℕ → ℤ → Type 0
IsBaseInstant true zone now day given start = start ≡ now
IsBaseInstant false zone now day given start = IsInstantOf zone day given start

-- the answer where the instants before and after that addition are these
abbrev pub IsAnswer : ℤ → ℤ → ℤ → Result ℕ DateFault → Type 0
IsAnswer now start end (Ok minute) =
    IsClockSecond start × IsClockSecond end × (minute ≡ minute_at end) × (minute_at now ≤ minute)
IsAnswer now start end (Err Past) =
    IsClockSecond start × IsClockSecond end × (minute_at end < minute_at now)
IsAnswer now start end (Err OutOfRange) = ¬ (IsClockSecond start × IsClockSecond end)
IsAnswer now start end _ = ⊥

-- the answer for a date and a time of day: out of range where the date leaves the calendar, which
-- is from the year -9999 to 9999, or an instant leaves the clock's range
pub data Becomes (instant : Bool) (zone : Zone) (now : ℤ) (date : Date) (given : ℕ)
    (later : Option Increment) : Result ℕ DateFault → Type 0 where
  leaves : ¬ (IsEpochDay (later_day later date))
      → Becomes instant zone now date given later (Err OutOfRange)
  stays : (start : ℤ) (result : Result ℕ DateFault) → IsEpochDay (later_day later date)
      → IsBaseInstant instant zone now (later_day later date) given start
      → IsAnswer now start (start +ℤ pos (later_seconds later)) result
      → Becomes instant zone now date given later result

-- the minute that a time means at a second now, or why it means none
pub data TimespecMeans (spec : Timespec) (now : ℤ) (zone : Zone) : Result ℕ DateFault → Type 0 where
  no_day : (today : Date) (time : ℕ) → ShowsNow (zone_meant spec.clock zone) now today time
      → NamesNoDay spec.date today → TimespecMeans spec now zone (Err NoSuchDay)
  picked : (today date : Date) (time : ℕ) (result : Result ℕ DateFault)
      → ShowsNow (zone_meant spec.clock zone) now today time
      → IsPicked spec.date (given_second spec.clock time) today time date
      → Becomes (is_instant spec.clock spec.increment) (zone_meant spec.clock zone) now date
      (given_second spec.clock time) spec.increment result
      → TimespecMeans spec now zone result

-- the same of a time of `-t`
pub data TouchMeans (time : TouchTime) (now : ℤ) (zone : Zone) : Result ℕ DateFault → Type 0 where
  touch_no_day : (today : Date) (second : ℕ) → ShowsNow zone now today second
      → ¬ (IsCivilDate (year_of_touch time.year today) time.month time.day)
      → TouchMeans time now zone (Err NoSuchDay)
  touch_named : (today date : Date) (second : ℕ) (result : Result ℕ DateFault)
      → ShowsNow zone now today second
      → IsDateOf (year_of_touch time.year today) time.month time.day date
      → Becomes false zone now date (time.hour * SECONDS_AN_HOUR + time.minute * 60) None result
      → TouchMeans time now zone result

-- a time means one thing at most
abbrev pub IsOnlyMeaning : Timespec → ℤ → Zone → Result ℕ DateFault → Type 0
IsOnlyMeaning spec now zone result =
    (other : Result ℕ DateFault) → TimespecMeans spec now zone other → other ≡ result

-- and so does a time of `-t`
abbrev pub IsOnlyTouchMeaning : TouchTime → ℤ → Zone → Result ℕ DateFault → Type 0
IsOnlyTouchMeaning time now zone result =
    (other : Result ℕ DateFault) → TouchMeans time now zone other → other ≡ result

-- a given hour is at most 23, and a given minute at most 59
abbrev pub IsTimeOfDay : Clock → Type 0
IsTimeOfDay Now = ⊤
IsTimeOfDay (At hour minute utc) = (hour ≤ 23) × (minute ≤ 59)

-- a given weekday is at most 6, and a given year the calendar's last at most
abbrev pub IsPickable : DatePart → Type 0
IsPickable (MonthDay month day year) = IfSome year (λ given. given ≤ LAST_YEAR)
IsPickable (Weekday weekday) = weekday ≤ 6
IsPickable Absent = ⊤
IsPickable Today = ⊤
IsPickable Tomorrow = ⊤
