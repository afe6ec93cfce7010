-- What a clock shows at a whole second, and that its fields are in their ranges.
use Rattle.std.proofs.Common.{◌≡◌, ◌∙◌, ◌+◌, ◌%◌, ap, ℤ, pos, neg_ℤ, ◌+ℤ◌, ◌*ℤ◌, ◌≤ℤ◌, refl, sym, subst, arith, lit≤}
use Rattle.std.proofs.lemmas.Int.{by_lt_z}
use Rattle.jiff.proofs.Family.{civil_nanos-civil_seconds}
use Rattle.jiff.specs.Types.{Date, DateTime, TimeZone, UTC, Unknown, Fixed, Posix, Tzif}
use Rattle.jiff.specs.Words.{civil_nanos, civil_seconds, epoch_day, nanos_of_seconds, offset_at, IsOffsetSeconds}
use Rattle.jiff_core.proofs.CalendarLemmas.{day_count-lt_year, days_in_month_bounds}
use Rattle.jiff_core.proofs.DateLemmas.{civil}
use Rattle.jiff_core.proofs.SignedLemmas.{signed_arith}
use Rattle.jiff_core.specs.Calendar.{IsCivilDate, days_from_civil, day_count, days_of_years, days_of_months, weekday_number}
use Rattle.jiff_tz.specs.PosixRule as PosixRule
use Rattle.jiff_tz.specs.Tzif as Table
use Rattle.civil_minute.specs.Civil.{IsCivilTime, IsClockTime, IsPrintable, day_of, second_of_day}
use Rattle.civil_minute.specs.Zone.{offset_in, rules_of}
use Rattle.civil_minute.specs.inside.Reckoning.{HasFields, IsLocalTime}
use Rattle.civil_minute.specs.declared.civil.TheConstants.{SECONDS_A_DAY}
use Rattle.civil_minute.specs.declared.civil.CivilMinute.{CivilMinute}
use Rattle.civil_minute.specs.declared.zone.Zone.{Zone}

-- a clock that is whole seconds ahead shows whole seconds
pub local_time : (zone : Zone) (at : ℤ) (local : DateTime)
    → civil_nanos local ≡ nanos_of_seconds at +ℤ nanos_of_seconds (offset_in zone at) → IsLocalTime zone at local
local_time zone at local shows = record {
  shows = omega (arith, signed_arith, civil_nanos-civil_seconds local, local.time.subsec_in);
  whole = omega (arith, signed_arith, civil_nanos-civil_seconds local, local.time.subsec_in);
}

-- the same second, computed in another way
pub local_time-same : {zone : Zone} {at : ℤ} {local : DateTime} (second : ℤ) → at ≡ second → IsLocalTime zone at local
    → IsLocalTime zone second local
local_time-same {zone} {at} {local} second same shows = subst (λ s. IsLocalTime zone s local) same shows

-- a zone is at most 25:59:59 east or west of UTC
pub offset_bound : (zone : TimeZone) (nanos : ℤ) → IsOffsetSeconds (offset_at zone nanos)
unfolding offset_at
offset_bound UTC nanos = omega (arith, signed_arith)
offset_bound Unknown nanos = omega (arith, signed_arith)
offset_bound (Fixed offset) nanos = offset.in_range
offset_bound (Posix rule) nanos = (PosixRule.offset_at rule nanos).in_range
offset_bound (Tzif table) nanos = (Table.offset_at table.now nanos).in_range

-- a date that comes at or after the year's first day is of that year or of a later one
pub year_bound : (date : Date) (year : ℤ) → days_from_civil year 1 1 ≤ℤ epoch_day date → year ≤ℤ date.year
unfolding days_from_civil
year_bound date year from =
    by_lt_z date.year year
    (λ before. let less = day_count-lt_year date.year date.month date.day year 1 1 (civil date) (lit≤ tt) before in
    absurd (omega (arith, signed_arith)))
    (λ after. after)

-- 1 January of the year 1000
pub year_1000 : days_from_civil (pos 1000) 1 1 ≡ neg_ℤ (pos 354_285)
unfolding days_from_civil day_count days_of_years days_of_months
year_1000 = refl

-- the fields of a date are a date, and those of a time a time
shown_date : (local : DateTime) (shown : CivilMinute) → HasFields local shown → IsCivilDate shown.year shown.month shown.day
shown_date local shown s = rw (s.year, s.month, s.day) (civil local.date)

shown_time : (local : DateTime) (shown : CivilMinute) → HasFields local shown → IsClockTime shown
shown_time local shown s =
    record {
      hour = omega (arith, local.time.hour_in);
      minute = omega (arith, local.time.minute_in);
      second = omega (arith, local.time.second_in);
    }

shown_day : (local : DateTime) (shown : CivilMinute) → HasFields local shown → day_of shown ≡ epoch_day local.date
shown_day local shown s = rw (s.year, s.month, s.day)

shown_seconds : (local : DateTime) (shown : CivilMinute) → HasFields local shown
    → day_of shown *ℤ pos SECONDS_A_DAY +ℤ pos (second_of_day shown) ≡ civil_seconds local
unfolding civil_seconds
shown_seconds local shown s = rw (shown_day local shown s, s.hour, s.minute, s.second)

-- so they are the civil time of the second that many seconds ahead of which the clock is
pub shown_civil_time : (zone : Zone) (at : ℤ) (local : DateTime) (shown : CivilMinute) → HasFields local shown
    → IsLocalTime zone at local → IsCivilTime zone at shown
shown_civil_time zone at local shown s ahead = record {
  date = shown_date local shown s;
  time = shown_time local shown s;
  shows = shown_seconds local shown s ∙ ahead.shows;
  weekday = s.weekday ∙ ap (λ day. (weekday_number day + 1) % 7) (sym (shown_day local shown s));
}

-- from 1970 on the year has four digits
pub shown_printable : (zone : Zone) (at : ℤ) (local : DateTime) (shown : CivilMinute) → HasFields local shown
    → IsLocalTime zone at local → pos 0 ≤ℤ at → IsPrintable shown
unfolding civil_seconds
shown_printable zone at local shown s ahead late =
    let bound = offset_bound (rules_of zone) (nanos_of_seconds at) in
    let day : days_from_civil (pos 1000) 1 1 ≤ℤ epoch_day local.date =
    rw year_1000 (omega (arith, signed_arith, local.time.hour_in, local.time.minute_in, local.time.second_in)) in
    let from = year_bound local.date (pos 1000) day in
    let date = shown_date local shown s in
    record {
      year = (rw s.year from, date.0.1);
      month = date.1;
      day = (date.2.0, omega (arith, days_in_month_bounds shown.year shown.month));
      time = shown_time local shown s;
      weekday = omega arith;
    }
