-- When a date leaves the calendar, and the instant of a civil time.
use Rattle.std.proofs.Common.{◌≡◌, ◌≤◌, ◌<◌, ◌-◌, ℕ, ℤ, pos, ◌+ℤ◌, ◌-ℤ◌, ◌*ℤ◌, ◌<ℤ◌, refl, arith, lit≤}
use Rattle.jiff.specs.Types.{Date, DateTime}
use Rattle.jiff.specs.Words.{add_months, civil_seconds, epoch_day, IsEpochDay, IsShiftable, IsYear, IsTimestampNanos, instant_of, compatible_offset, ambiguous_at}
use Rattle.jiff.proofs.Family.{civil_nanos-civil_seconds}
use Rattle.jiff_core.proofs.CalendarLemmas.{day_count-lt_year}
use Rattle.jiff_core.proofs.DateLemmas.{days_from_civil-max}
use Rattle.jiff_core.proofs.SignedLemmas.{signed_arith}
use Rattle.jiff_core.specs.Calendar.{days_from_civil}
use Rattle.jiff_core.specs.Time.{time_seconds}
use Rattle.jiff_span.proofs.MonthLemmas.{shifted_month_in, shifted_number}
use Rattle.jiff_span.specs.Months.{shifted_year, shifted_month, shifted_day}
use Rattle.jiff_core.proofs.CalendarLemmas.{days_in_month_bounds}
use Rattle.std.proofs.lemmas.Int.{by_lt_z}
use Rattle.std.specs.Int.{int_div_euclid}
use Rattle.civil_minute.specs.Meant.{IsInstantOf, offset_before}
use Rattle.civil_minute.specs.Zone.{rules_of}
use Rattle.civil_minute.specs.inside.Reckoning.{LeavesRange}
use Rattle.civil_minute.specs.declared.zone.Zone.{Zone}

-- a date of a later year than 9999 comes after the calendar
past_9999 : (year : ℤ) (month day : ℕ) → 1 ≤ day → pos 9999 <ℤ year → pos 2_932_896 <ℤ days_from_civil year month day
unfolding days_from_civil
past_9999 year month day some later =
    let last = days_from_civil-max in
    let less = day_count-lt_year (pos 9999) 12 31 year month day
    ((omega (arith, signed_arith), omega (arith, signed_arith)), (lit≤ tt, lit≤ tt), (lit≤ tt, lit≤ tt)) some later in
    omega (arith, signed_arith)

-- a later month of a later year than the calendar has
year_past : (year y : ℤ) (month m months : ℕ)
    → year *ℤ pos 12 +ℤ pos (month - 1) +ℤ pos months ≡ y *ℤ pos 12 +ℤ pos (m - 1) → 1 ≤ m → m ≤ 12
    → IsYear year → ¬ (IsYear y) → pos 9999 <ℤ y
year_past year y month m months number some twelve before after =
    by_lt_z (pos 9999) y (λ past. past) (λ within. absurd (after (omega (arith, signed_arith), within)))

-- a shift forward that leaves the years leaves the calendar
pub leaves_calendar : (date : Date) (months : ℕ) → ¬ (IsShiftable date (pos months)) → ¬ (IsEpochDay (add_months date (pos months)))
leaves_calendar date months leaves within =
    let number = shifted_number date (pos months) in
    let month = shifted_month_in date (pos months) in
    let length = (days_in_month_bounds (shifted_year date (pos months)) (shifted_month date (pos months))).1 in
    let day : 1 ≤ shifted_day date (pos months) = omega (arith, date.day_in) in
    let later : pos 9999 <ℤ shifted_year date (pos months) =
    year_past date.year (shifted_year date (pos months)) date.month (shifted_month date (pos months)) months number month.0
    month.1 date.year_in leaves in
    let past : pos 2_932_896 <ℤ add_months date (pos months) =
    past_9999 (shifted_year date (pos months)) (shifted_month date (pos months)) (shifted_day date (pos months)) day later in
    absurd (omega (arith, signed_arith))

-- 300,001 months lead out of the years from any date
pub too_many_months : (date : Date) (months : ℕ) → 300_000 < months → ¬ (IsShiftable date (pos months))
too_many_months date months many within =
    let number = shifted_number date (pos months) in
    let month = shifted_month_in date (pos months) in
    absurd (omega (arith, signed_arith, within, date.year_in))

-- the instant of a civil time without a fraction
pub instant_found : (zone : Zone) (local : DateTime) (given : ℕ) (nanos start : ℤ) → time_seconds local.time ≡ given
    → local.time.subsec_nanosecond ≡ 0 → nanos ≡ instant_of local (compatible_offset (ambiguous_at (rules_of zone) local))
    → start ≡ int_div_euclid nanos (pos 1_000_000_000) → IsInstantOf zone (epoch_day local.date) given start
unfolding civil_seconds
instant_found zone local given nanos start seconds whole instant floor = record {
  local = local;
  shows = rw seconds;
  whole = whole;
  after = omega (arith, signed_arith, civil_nanos-civil_seconds local);
}

-- a civil time whose instant `jiff` does not have lies outside of the clock's range
pub instant_outside : (zone : Zone) (local : DateTime) (given : ℕ) → time_seconds local.time ≡ given
    → local.time.subsec_nanosecond ≡ 0 → ¬ (IsTimestampNanos (instant_of local (compatible_offset (ambiguous_at (rules_of zone) local))))
    → LeavesRange zone (epoch_day local.date) given
unfolding civil_seconds
instant_outside zone local given seconds whole beyond = record {
  start = civil_seconds local -ℤ offset_before zone local;
  instant = record { local = local; shows = rw seconds; whole = whole; after = refl };
  outside = λ within. beyond (omega (arith, signed_arith, civil_nanos-civil_seconds local));
}
