-- When an entry of a crontab is due (POSIX.1-2017, XCU crontab, Input Files, the sentences on month, day of the month
-- and day of the week: where all three are asterisks each day matches; where one or two of month and day are not, and
-- the weekday is one, the day is one that both match; where month and day are asterisks and the weekday is none, the
-- weekday alone matches; where both kinds are restricted, a day that either matches).
use Rattle.std.specs.Prelude.{ℕ, ◌==◌, ◌&&◌, ◌||◌, Bool, if◌then◌else◌}
use Rattle.std.specs.Int.{bit_at}
use Rattle.civil_minute.specs.declared.civil.CivilMinute.{CivilMinute}
use Rattle.cron_text.specs.declared.entry.CronEntry.{CronEntry}
use Rattle.cron_text.specs.declared.field.Field.{Field}

-- the field holds the number
abbrev pub has : Field → ℕ → Bool
has field value = bit_at field.bits value == 1

-- month and day hold the civil day together
abbrev pub has_civil_day : CronEntry → CivilMinute → Bool
has_civil_day entry civil = has entry.month civil.month && has entry.day civil.day

-- the weekday holds the civil day
abbrev pub has_civil_weekday : CronEntry → CivilMinute → Bool
has_civil_weekday entry civil = has entry.weekday civil.weekday

-- the day is due: by the weekday where month and day are asterisks, else by month and day where the weekday is one,
-- else by either
abbrev pub is_date_due : CronEntry → CivilMinute → Bool
is_date_due entry civil =
    if entry.month.star && entry.day.star then has_civil_weekday entry civil
    else (if entry.weekday.star then has_civil_day entry civil else has_civil_day entry civil || has_civil_weekday entry civil)

-- the minute, the hour and the day are due
abbrev pub is_entry_due : CronEntry → CivilMinute → Bool
is_entry_due entry civil = has entry.minute civil.minute && has entry.hour civil.hour && is_date_due entry civil
