-- The dates that a clock shows during a day of UTC, and that an entry is due by its date.
use Rattle.std.proofs.Common.{◌≡◌, ◌∙◌, ◌≤◌, ◌<◌, ◌+◌, ◌-◌, ◌*◌, ◌%◌, ◌&&◌, ◌-ℤ◌, ◌+ℤ◌, ◌≤ℤ◌, ◌<ℤ◌, ℕ, ℤ, pos, negsuc, Bool, not, true, false, IsTrue, unsigned_abs, refl, sym, ap, arith}
use Rattle.std.proofs.lemmas.Bool.{cases_lt}
use mathlib.Core.Logic.{⊎_elim}
use Rattle.jiff.specs.Types.{TimeZone, UTC, Unknown, Fixed, Posix, Tzif}
use Rattle.jiff.specs.Words.{epoch_day, nanos_of_seconds, offset_at, IsOffsetSeconds}
use Rattle.jiff_core.proofs.DateLemmas.{epoch_day_injective}
use Rattle.jiff_core.proofs.SignedLemmas.{signed_arith}
use Rattle.jiff_core.specs.Calendar.{IsCivilDate, weekday_number}
use Rattle.jiff_core.specs.declared.civil.date.Date.{Date}
use Rattle.jiff_tz.specs.PosixRule as PosixRule
use Rattle.jiff_tz.specs.Tzif as Table
use Rattle.civil_minute.specs.Civil.{IsCivilTime, day_of, second_of_day}
use Rattle.civil_minute.specs.declared.civil.CivilMinute.{CivilMinute}
use Rattle.civil_minute.specs.declared.zone.Zone.{Zone}
use Rattle.civil_minute.specs.Zone.{offset_in, rules_of}
use Rattle.cron_text.specs.declared.entry.CronEntry.{CronEntry}
use Rattle.cron_minutes.specs.Due.{has, is_date_due, is_entry_due}
use Rattle.cron_turn.specs.Schedule.{IsDueAt, IsNotDueWithin}
use Rattle.cron_turn.specs.inside.Dates.{AreIdleDates, HasDate, IsIdleDate, IsOnDay}

-- a zone is at most 25:59:59 east or west of UTC
offset_bound : (zone : TimeZone) (nanos : ℤ) → IsOffsetSeconds (offset_at zone nanos)
unfolding offset_at
offset_bound UTC nanos = omega (arith, signed_arith)
offset_bound Unknown nanos = omega (arith, signed_arith)
offset_bound (Fixed offset) nanos = offset.in_range
offset_bound (Posix rule) nanos = (PosixRule.offset_at rule nanos).in_range
offset_bound (Tzif table) nanos = (Table.offset_at table.now nanos).in_range

-- the date of a civil time
abbrev date_of : (civil : CivilMinute) → IsCivilDate civil.year civil.month civil.day → Date
date_of civil is = record { year = civil.year; month = civil.month; day = civil.day; year_in = is.0; month_in = is.1; day_in = is.2 }

-- a date is due by its month, its day and its weekday
same_date_due : (entry : CronEntry) (a b : CivilMinute) → a.month ≡ b.month → a.day ≡ b.day → a.weekday ≡ b.weekday
    → is_date_due entry a ≡ is_date_due entry b
same_date_due entry a b month day weekday = rw (month, day, weekday) refl

-- where a date is idle at one time, it is at each
pub idle_date : (entry : CronEntry) (date : Date) (day : ℤ) (midnight : CivilMinute) → epoch_day date ≡ day → HasDate date midnight
    → is_date_due entry midnight ≡ false → IsIdleDate entry day
idle_date entry date day midnight is has idle civil on =
    let same = epoch_day_injective date (date_of civil on.date) (is ∙ sym on.numbered) in
    same_date_due entry civil midnight (sym (has.month ∙ same.1)) (sym (has.day ∙ same.2))
    (on.weekday ∙ ap (λ number. (weekday_number number + 1) % 7) (sym is) ∙ sym has.weekday)
    ∙ idle

last_fails : (a b c : Bool) → c ≡ false → IsTrue (a && b && c) → ⊥
last_fails true true c is all = cc
last_fails true false c is all = cc
last_fails false b c is all = cc

-- on an idle date nothing is due
pub idle_civil : (entry : CronEntry) (civil : CivilMinute) → is_date_due entry civil ≡ false → IsTrue (is_entry_due entry civil) → ⊥
idle_civil entry civil idle due = last_fails (has entry.minute civil.minute) (has entry.hour civil.hour) (is_date_due entry civil) idle due

-- a number from 0 on is natural
as_natural : (z : ℤ) → pos 0 ≤ℤ z → pos (unsigned_abs z) ≡ z
as_natural (pos n) from = refl
as_natural (negsuc n) from = absurd (omega (arith, signed_arith, from))

-- nor at a minute of a day of UTC around which the dates are idle
pub idle_day : (zone : Zone) (entry : CronEntry) (day minute : ℕ) → AreIdleDates entry day (day + 5) → minute ≡ 1440 * day
    → IsNotDueWithin zone entry minute (minute + 1440)
idle_day zone entry day minute idle is k late early due =
    let shown = due.shown in
    let bound = offset_bound (rules_of zone) (nanos_of_seconds (pos (60 * k))) in
    let from : pos day ≤ℤ (day_of due.civil +ℤ pos 2) =
    omega (arith, signed_arith, shown.shows, shown.time.hour, shown.time.minute, shown.time.second, bound.0, bound.1, late, is) in
    let to : (day_of due.civil +ℤ pos 2) <ℤ pos (day + 5) =
    omega (arith, signed_arith, shown.shows, shown.time.hour, shown.time.minute, shown.time.second, bound.0, bound.1, early, is) in
    let date : ℕ = unsigned_abs (day_of due.civil +ℤ pos 2) in
    let natural : pos date ≡ day_of due.civil +ℤ pos 2 = as_natural (day_of due.civil +ℤ pos 2) (omega (arith, signed_arith, from)) in
    let sum : pos date -ℤ pos 2 ≡ day_of due.civil = omega (arith, signed_arith, natural) in
    let low : day ≤ date = omega (arith, signed_arith, natural, from) in
    let high : date < day + 5 = omega (arith, signed_arith, natural, to) in
    idle_civil entry due.civil
    (idle date low high due.civil (record {
      date = shown.date;
      numbered = sym sum;
      weekday = shown.weekday ∙ ap (λ number. (weekday_number number + 1) % 7) (sym sum);
    }))
    due.due

same_due : (entry : CronEntry) (a b : CivilMinute) → a.minute ≡ b.minute → a.hour ≡ b.hour → a.month ≡ b.month
    → a.day ≡ b.day → a.weekday ≡ b.weekday
    → is_entry_due entry a ≡ is_entry_due entry b
same_due entry a b minute hour month day weekday = rw (minute, hour, month, day, weekday) refl

-- a clock shows one time
one_time : (entry : CronEntry) (zone : Zone) (at : ℤ) (a b : CivilMinute) → IsCivilTime zone at a → IsCivilTime zone at b
    → is_entry_due entry a ≡ is_entry_due entry b
one_time entry zone at a b first second =
    let shows = first.shows ∙ sym second.shows in
    let day : day_of a ≡ day_of b = omega (
      arith,
      signed_arith,
      shows,
      first.time.hour,
      first.time.minute,
      first.time.second,
      second.time.hour,
      second.time.minute,
      second.time.second,
    ) in
    let seconds : second_of_day a ≡ second_of_day b = omega (
      arith,
      signed_arith,
      shows,
      first.time.hour,
      first.time.minute,
      first.time.second,
      second.time.hour,
      second.time.minute,
      second.time.second,
    ) in
    let hour : a.hour ≡ b.hour = omega (arith, seconds, first.time.minute, first.time.second, second.time.minute, second.time.second) in
    let minute : a.minute ≡ b.minute = omega (arith, seconds, hour, first.time.second, second.time.second) in
    let date = epoch_day_injective (date_of a first.date) (date_of b second.date) day in
    same_due entry a b minute hour date.1 date.2 (first.weekday ∙ ap (λ number. (weekday_number number + 1) % 7) day ∙ sym second.weekday)

-- a minute whose civil time is not due is idle
pub idle_minute : (zone : Zone) (entry : CronEntry) (minute : ℕ) (civil : CivilMinute) → IsCivilTime zone (pos (60 * minute)) civil
    → is_entry_due entry civil ≡ false → IsNotDueWithin zone entry minute (minute + 1)
idle_minute zone entry minute civil shown idle k late early due =
    let same : k ≡ minute = omega (arith, late, early) in
    let at : IsCivilTime zone (pos (60 * minute)) due.civil = rw (sym same) due.shown in
    cc (one_time entry zone (pos (60 * minute)) civil due.civil shown at, idle, due.due)

-- one date more
pub dates_more : (entry : CronEntry) (first date : ℕ) (day : ℤ) → AreIdleDates entry first date → day ≡ pos date -ℤ pos 2
    → IsIdleDate entry day → AreIdleDates entry first (date + 1)
dates_more entry first date day so_far is idle other late early =
    ⊎_elim
    (λ lt. so_far other late lt)
    (λ ge. let same : other ≡ date = omega (arith, ge, early) in rw (same, sym is) idle)
    (cases_lt other date)

pub not_true : (b : Bool) → IsTrue (not b) → b ≡ false
not_true true is = cc
not_true false is = refl
