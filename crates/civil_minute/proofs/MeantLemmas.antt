-- What a clock shows now, and the first day with a weekday.
use Rattle.std.proofs.Common.{◌≡◌, ◌⊎◌, inl, inr, ◌≤◌, ◌<◌, ◌+◌, ◌-◌, ◌*◌, ◌%◌, nat_le, Bool, true, false, ℕ, ℤ, pos, ◌+ℤ◌, ◌-ℤ◌, ◌≤ℤ◌, ◌<ℤ◌, negsuc, unsigned_abs, refl, sym, subst, arith, zero, suc, Option, None, Result, Ok, Err}
use Rattle.std.specs.Prelude.{IfOk}
use Rattle.std.proofs.lemmas.Bool.Decides.{nat_tests}
use Rattle.std.proofs.lemmas.Int.{by_lt_z}
use Rattle.jiff.specs.Types.{Date, DateTime}
use Rattle.jiff.specs.Words.{civil_seconds, epoch_day, IsEpochDay, nanos_of_seconds}
use Rattle.jiff_core.proofs.CalendarLemmas.{weekday_number-add, weekday_number_bound}
use Rattle.jiff_core.proofs.SignedLemmas.{signed_arith, one_part}
use Rattle.jiff_core.specs.Calendar.{weekday_number, IsCivilDate}
use Rattle.jiff_core.specs.Time.{time_seconds}
use Rattle.civil_minute.specs.Meant.{IsAwaited, IsFirstAwaited, ShowsNow, Becomes, leaves, stays, TimespecMeans, no_day, picked, IsAnswer, IsInstantOf, IsPicked, IsBaseInstant, NamesNoDay, given_second, is_instant, IsDateOf, TouchMeans, touch_no_day, touch_named, year_of_touch, later_day, later_seconds, zone_meant}
use Rattle.civil_minute.specs.Zone.{rules_of}
use Rattle.civil_minute.specs.inside.Reckoning.{IsLocalTime, LeavesRange, days_ahead}
use Rattle.civil_minute.specs.declared.civil.TheConstants.{SECONDS_AN_HOUR}
use Rattle.civil_minute.specs.declared.picked.TheConstants.{LAST_TODAY}
use Rattle.host_calls.specs.ClockRange.{IsClockMinute, IsClockSecond, minute_at}
use Rattle.host_calls.specs.declared.clock_seconds.TheConstants.{LAST_SECOND}
use Rattle.civil_minute.specs.declared.fault.DateFault.{DateFault}
use Rattle.civil_minute.specs.declared.fault.DateFault.TheVariants.{NoSuchDay, OutOfRange}
use Rattle.civil_minute.specs.declared.zone.Zone.{Zone}
use Rattle.touch_time.specs.declared.touch.TouchTime.{TouchTime}
use Rattle.timespec_grammar.specs.declared.increment.Increment.{Increment}
use Rattle.timespec_grammar.specs.declared.timespec.Timespec.{Timespec}
use Rattle.civil_minute.proofs.CivilLemmas.{offset_bound}

-- the date and the time of the clock
pub shows_now : (zone : Zone) (now : ℤ) (local : DateTime) → IsLocalTime zone now local
    → ShowsNow zone now local.date (time_seconds local.time)
unfolding civil_seconds
shows_now zone now local at = record {
  shows = at.shows;
  within = omega (arith, local.time.hour_in, local.time.minute_in, local.time.second_in);
}

-- it has days enough before the end of the calendar
pub today_bound : (zone : Zone) (now : ℤ) (local : DateTime) → IsLocalTime zone now local → now ≤ℤ LAST_SECOND
    → epoch_day local.date ≤ℤ LAST_TODAY
unfolding civil_seconds
today_bound zone now local at late =
    let bound = offset_bound (rules_of zone) (nanos_of_seconds now) in
    let shows = at.shows in
    omega (arith, signed_arith)

-- a week ahead, or less than that and not today's passed time
ahead_cases : (weekday current : ℕ) (passed : Bool) → weekday ≤ 6 → current ≤ 6
    → ((days_ahead weekday current passed ≡ 7) × (weekday ≡ current) × (passed ≡ true))
    ⊎ ((days_ahead weekday current passed ≡ (weekday + 7 - current) % 7) × (weekday ≡ current → passed ≡ false))
ahead_cases weekday current passed small valid = grind (arith, nat_tests)

-- the days ahead lead to the weekday
leads : (weekday current a b k : ℕ) → weekday ≤ 6 → a < 7 → current ≡ (a + 1) % 7 → b ≡ (a + k) % 7
    → ((k ≡ 7) × (weekday ≡ current)) ⊎ (k ≡ (weekday + 7 - current) % 7) → (b + 1) % 7 ≡ weekday
leads weekday current a b k small number is_current moved (inl h) = omega arith
leads weekday current a b k small number is_current moved (inr h) = omega arith

-- and no fewer do, but none for a week
fewer_week : (weekday current a b j : ℕ) → a < 7 → current ≡ (a + 1) % 7 → b ≡ (a + j) % 7 → (b + 1) % 7 ≡ weekday
    → weekday ≡ current → j < 7 → j ≡ 0
fewer_week weekday current a b j number is_current moved named same less = omega arith

fewer : (weekday current a b j k : ℕ) → a < 7 → current ≡ (a + 1) % 7 → b ≡ (a + j) % 7 → (b + 1) % 7 ≡ weekday
    → k ≡ (weekday + 7 - current) % 7 → ¬ (j < k)
fewer weekday current a b j k number is_current moved named is_k less = absurd (omega arith)

-- some days ahead, or none and the time is still to come
ahead_of : (k given time : ℕ) (today day : ℤ) → day ≡ today +ℤ pos k → (k ≡ 0 → time < given)
    → (today <ℤ day) ⊎ ((day ≡ today) × (time < given))
ahead_of zero given time today day is_day to_come = inr (omega (arith, signed_arith), to_come refl)
ahead_of (suc k) given time today day is_day to_come = inl (omega (arith, signed_arith))

-- the days from one to a later one
gap : (a b : ℤ) → a ≤ℤ b → (j : ℕ) × (b ≡ a +ℤ pos j)
gap a b later = (unsigned_abs (b -ℤ a), omega (arith, signed_arith, one_part (b -ℤ a)))

module _ (weekday given : ℕ) (today : ℤ) (time current : ℕ) (passed : Bool) (day : ℤ) (small : weekday ≤ 6)
    (is_current : current ≡ (weekday_number today + 1) % 7) (is_passed : passed ≡ nat_le given time)
    (is_day : day ≡ today +ℤ pos (days_ahead weekday current passed)) where
  cases : ((days_ahead weekday current passed ≡ 7) × (weekday ≡ current) × (passed ≡ true))
      ⊎ ((days_ahead weekday current passed ≡ (weekday + 7 - current) % 7) × (weekday ≡ current → passed ≡ false))
  cases = ahead_cases weekday current passed small (omega arith)

  named : (weekday_number day + 1) % 7 ≡ weekday
  named =
      let moved = weekday_number-add today day (days_ahead weekday current passed) is_day in
      let short : ((days_ahead weekday current passed ≡ 7) × (weekday ≡ current))
      ⊎ (days_ahead weekday current passed ≡ (weekday + 7 - current) % 7) =
      elim cases [ inl h ↦ inl (h.0, h.1) | inr h ↦ inr h.0 ] in
      leads weekday current (weekday_number today) (weekday_number day) (days_ahead weekday current passed) small
      (weekday_number_bound today) is_current moved short

  still : days_ahead weekday current passed ≡ 0 → time < given
  still none = grind (arith, nat_tests, cases)

  -- a day that is so many ahead, and fewer than those
  none_before : (other : ℤ) (j : ℕ) → other ≡ today +ℤ pos j → IsAwaited weekday given today time other
      → ¬ (j < days_ahead weekday current passed)
  none_before other j is_other awaited less =
      let moved = weekday_number-add today other j is_other in
      elim cases [
        | inl h ↦ passed_today (fewer_week weekday current (weekday_number today) (weekday_number other) j (weekday_number_bound today)
            is_current moved awaited.named h.1 (subst (λ k. j < k) h.0 less)) h.2
        | inr h ↦ fewer weekday current (weekday_number today) (weekday_number other) j _ (weekday_number_bound today) is_current
            moved awaited.named h.0 less
      ]
    where
      passed_today : j ≡ 0 → passed ≡ true → ⊥
      passed_today none over =
          let late : given ≤ time = grind (arith, nat_tests) in
          elim awaited.ahead [ inl after ↦ omega (arith, signed_arith) | inr now ↦ omega (arith, now.1) ]

  earliest : (other : ℤ) → IsAwaited weekday given today time other → ¬ (other <ℤ day)
  earliest other awaited less =
      let from : today ≤ℤ other = elim awaited.ahead [ inl h ↦ omega (arith, signed_arith) | inr h ↦ omega (arith, signed_arith) ] in
      let (j, is_other) = gap today other from in
      none_before other j is_other awaited (omega (arith, signed_arith))

  pub first_awaited : IsFirstAwaited weekday given today time day
  first_awaited = record {
    awaited = record { named = named; ahead = ahead_of (days_ahead weekday current passed) given time today day is_day still };
    first = λ other awaited. by_lt_z other day (λ less. absurd (earliest other awaited less)) (λ later. later);
  }

-- the lemmas below put the outcome together
pub becomes_outside : (instant : Bool) (zone : Zone) (now : ℤ) (date : Date) (given : ℕ) (later : Option Increment) (day : ℤ)
    → IsEpochDay day → day ≡ later_day later date
    → instant ≡ false → LeavesRange zone day given → Becomes instant zone now date given later (Err OutOfRange)
becomes_outside true zone now date given later day within is_day not_now outside = cc
becomes_outside false zone now date given later day within is_day not_now outside =
    stays outside.start (Err OutOfRange) (subst IsEpochDay is_day within)
    (subst (λ d. IsInstantOf zone d given outside.start) is_day outside.instant) (λ both. outside.outside both.0)

pub becomes_answer : (instant : Bool) (zone : Zone) (now : ℤ) (date : Date) (given : ℕ) (later : Option Increment) (day start seconds : ℤ)
    (result : Result ℕ DateFault)
    → IsEpochDay day → day ≡ later_day later date → IsBaseInstant instant zone now day given start → seconds ≡ pos (later_seconds later)
    → IsAnswer now start (start +ℤ seconds) result → Becomes instant zone now date given later result
becomes_answer instant zone now date given later day start seconds result within is_day is_start is_seconds answer =
    stays start result (subst IsEpochDay is_day within) (subst (λ d. IsBaseInstant instant zone now d given start) is_day is_start)
    (subst (λ s. IsAnswer now start (start +ℤ s) result) is_seconds answer)

pub means_no_day : (spec : Timespec) (now : ℤ) (zone meant : Zone) (local : DateTime) → meant ≡ zone_meant spec.clock zone
    → IsLocalTime meant now local
    → NamesNoDay spec.date local.date → TimespecMeans spec now zone (Err NoSuchDay)
means_no_day spec now zone meant local is_meant at names =
    no_day local.date (time_seconds local.time) (shows_now _ now local (subst (λ z. IsLocalTime z now local) is_meant at)) names

pub means_picked : (spec : Timespec) (now : ℤ) (zone meant : Zone) (local : DateTime) (date : Date) (given : ℕ) (instant : Bool)
    (result : Result ℕ DateFault)
    → meant ≡ zone_meant spec.clock zone → IsLocalTime meant now local → given ≡ given_second spec.clock (time_seconds local.time)
    → instant ≡ is_instant spec.clock spec.increment → IsPicked spec.date given local.date (time_seconds local.time) date
    → Becomes instant meant now date given spec.increment result → TimespecMeans spec now zone result
means_picked spec now zone meant local date given instant result is_meant at is_given is_now pick becomes =
    picked local.date date (time_seconds local.time) result (shows_now _ now local (subst (λ z. IsLocalTime z now local) is_meant at))
    (subst (λ g. IsPicked spec.date g local.date (time_seconds local.time) date) is_given pick)
    (subst (λ z. Becomes (is_instant spec.clock spec.increment) z now date (given_second spec.clock (time_seconds local.time))
    spec.increment result) is_meant
    (subst (λ g. Becomes (is_instant spec.clock spec.increment) meant now date g spec.increment result) is_given
    (subst (λ i. Becomes i meant now date given spec.increment result) is_now becomes)))

pub touch_means_no_day : (time : TouchTime) (now : ℤ) (zone : Zone) (local : DateTime) (year : ℤ)
    → year ≡ year_of_touch time.year local.date
    → IsLocalTime zone now local → ¬ (IsCivilDate year time.month time.day) → TouchMeans time now zone (Err NoSuchDay)
touch_means_no_day time now zone local year is_year at names =
    touch_no_day local.date (time_seconds local.time) (shows_now zone now local at)
    (subst (λ y. ¬ (IsCivilDate y time.month time.day)) is_year names)

pub touch_means_named : (time : TouchTime) (now : ℤ) (zone : Zone) (local : DateTime) (year : ℤ) (date : Date) (given : ℕ)
    (result : Result ℕ DateFault)
    → year ≡ year_of_touch time.year local.date → IsLocalTime zone now local → IsDateOf year time.month time.day date
    → given ≡ time.hour * SECONDS_AN_HOUR + time.minute * 60 → Becomes false zone now date given None result
    → TouchMeans time now zone result
touch_means_named time now zone local year date given result is_year at day is_given becomes =
    touch_named local.date date (time_seconds local.time) result (shows_now zone now local at)
    (subst (λ y. IsDateOf y time.month time.day date) is_year day)
    (subst (λ g. Becomes false zone now date g None result) is_given becomes)

-- a minute of the clock's second is in the range
minute_in_range : (second : ℤ) → IsClockSecond second → IsClockMinute (minute_at second)
minute_in_range (pos second) clock = omega (arith, signed_arith, clock.high)
minute_in_range (negsuc second) clock = omega arith

becomes_in_range : (instant : Bool) (zone : Zone) (now : ℤ) (date : Date) (given : ℕ) (later : Option Increment)
    (result : Result ℕ DateFault)
    → Becomes instant zone now date given later result → IfOk result IsClockMinute
becomes_in_range instant zone now date given later result (leaves out) = tt
becomes_in_range instant zone now date given later result (stays start (Ok minute) within is_base answer) =
    subst IsClockMinute (sym answer.2) (minute_in_range _ answer.1)
becomes_in_range instant zone now date given later result (stays start (Err fault) within is_base answer) = tt

-- whatever minute is meant is one that a clock can show
pub means_in_range : (spec : Timespec) (now : ℤ) (zone : Zone) (result : Result ℕ DateFault) → TimespecMeans spec now zone result
    → IfOk result IsClockMinute
means_in_range spec now zone result (no_day today time shows names) = tt
means_in_range spec now zone result (picked today date time result₂ shows pick becomes) = becomes_in_range _ _ now date _ _ result becomes

pub touch_means_in_range : (time : TouchTime) (now : ℤ) (zone : Zone) (result : Result ℕ DateFault) → TouchMeans time now zone result
    → IfOk result IsClockMinute
touch_means_in_range time now zone result (touch_no_day today second shows names) = tt
touch_means_in_range time now zone result (touch_named today date second result₂ shows day becomes) =
    becomes_in_range _ _ now date _ _ result becomes
