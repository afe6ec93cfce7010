-- A time means one thing only.
use Rattle.std.proofs.Common.{◌≡◌, ◌∙◌, ◌+◌, ◌*◌, Bool, true, false, ℕ, ℤ, pos, ◌+ℤ◌, ◌-ℤ◌, ◌*ℤ◌, Option, None, Result, Ok, Err, refl, sym, ap, subst, arith}
use Rattle.jiff.proofs.Family.{civil_nanos-civil_seconds, epoch_day_same, same_date, same_datetime}
use Rattle.jiff.specs.Types.{Date, DateTime}
use Rattle.jiff.specs.Words.{civil_seconds, civil_nanos, epoch_day}
use Rattle.jiff_core.proofs.DateLemmas.{civil}
use Rattle.jiff_core.proofs.SignedLemmas.{signed_arith}
use Rattle.jiff_core.specs.Calendar.{IsCivilDate}
use Rattle.timespec_grammar.specs.declared.date.DatePart.{DatePart}
use Rattle.timespec_grammar.specs.declared.date.DatePart.TheVariants.{Absent, MonthDay, Weekday, Today, Tomorrow}
use Rattle.timespec_grammar.specs.declared.increment.Increment.{Increment}
use Rattle.timespec_grammar.specs.declared.timespec.Timespec.{Timespec}
use Rattle.touch_time.specs.declared.touch.TouchTime.{TouchTime}
use Rattle.civil_minute.specs.Meant.{Becomes, leaves, stays, IsAnswer, IsDateOf, IsFirstAwaited, IsInstantOf, IsPicked, IsBaseInstant, TimespecMeans, no_day, picked, NamesNoDay, ShowsNow, TouchMeans, touch_no_day, touch_named, given_second, is_instant, later_seconds, offset_before, year_of_month, year_of_touch, zone_meant}
use Rattle.civil_minute.specs.declared.civil.TheConstants.{SECONDS_A_DAY, SECONDS_AN_HOUR}
use Rattle.civil_minute.specs.declared.fault.DateFault.{DateFault}
use Rattle.civil_minute.specs.declared.fault.DateFault.TheVariants.{NoSuchDay, OutOfRange, Past, Memory}
use Rattle.civil_minute.specs.declared.zone.Zone.{Zone}

-- the clock shows one date and one time
one_now : (zone : Zone) (now : ℤ) (a b : Date) (s t : ℕ) → ShowsNow zone now a s → ShowsNow zone now b t → (a ≡ b) × (s ≡ t)
one_now zone now a b s t first second =
    let shows : epoch_day a *ℤ pos SECONDS_A_DAY +ℤ pos s ≡ epoch_day b *ℤ pos SECONDS_A_DAY +ℤ pos t = first.shows ∙ sym second.shows in
    (same_date a b (omega (arith, signed_arith)), omega (arith, signed_arith))

one_day : (year : ℤ) (month day : ℕ) (a b : Date) → IsDateOf year month day a → IsDateOf year month day b → a ≡ b
one_day year month day a b first second =
    same_date a b (epoch_day_same a b (first.same_year ∙ sym second.same_year) (first.same_month ∙ sym second.same_month)
    (first.same_day ∙ sym second.same_day))

is_civil : (year : ℤ) (month day : ℕ) (date : Date) → IsDateOf year month day date → IsCivilDate year month day
is_civil year month day date is = rw (← is.same_year, ← is.same_month, ← is.same_day) (civil date)

one_awaited : (weekday given : ℕ) (today : ℤ) (time : ℕ) (a b : ℤ) → IsFirstAwaited weekday given today time a
    → IsFirstAwaited weekday given today time b → a ≡ b
one_awaited weekday given today time a b first second =
    let below = first.first b second.awaited in
    let above = second.first a first.awaited in
    omega (arith, signed_arith)

one_picked : (part : DatePart) (given : ℕ) (today : Date) (time : ℕ) (a b : Date) → IsPicked part given today time a
    → IsPicked part given today time b → a ≡ b
one_picked Absent given today time a b first second = same_date a b (first ∙ sym second)
one_picked (MonthDay month day year) given today time a b first second = one_day _ month day a b first second
one_picked (Weekday weekday) given today time a b first second =
    same_date a b (one_awaited weekday given (epoch_day today) time (epoch_day a) (epoch_day b) first second)
one_picked Today given today time a b first second = same_date a b (first ∙ sym second)
one_picked Tomorrow given today time a b first second = same_date a b (first ∙ sym second)

none_picked : (part : DatePart) (given : ℕ) (today : Date) (time : ℕ) (date : Date) → NamesNoDay part today
    → ¬ (IsPicked part given today time date)
none_picked Absent given today time date none pick = none
none_picked (MonthDay month day year) given today time date none pick = none (is_civil (year_of_month year month today) month day date pick)
none_picked (Weekday weekday) given today time date none pick = none
none_picked Today given today time date none pick = none
none_picked Tomorrow given today time date none pick = none

one_instant : (zone : Zone) (day : ℤ) (given : ℕ) (a b : ℤ) → IsInstantOf zone day given a → IsInstantOf zone day given b → a ≡ b
one_instant zone day given a b first second =
    let seconds : civil_seconds first.local ≡ civil_seconds second.local = first.shows ∙ sym second.shows in
    let whole : (first.local.time.subsec_nanosecond ≡ 0) × (second.local.time.subsec_nanosecond ≡ 0) = (first.whole, second.whole) in
    let nanos : civil_nanos first.local ≡ civil_nanos second.local =
    omega (arith, signed_arith, civil_nanos-civil_seconds first.local, civil_nanos-civil_seconds second.local) in
    first.after ∙ ap (λ (local : DateTime). civil_seconds local -ℤ offset_before zone local) (same_datetime first.local second.local nanos)
    ∙ sym second.after

one_start : (instant : Bool) (zone : Zone) (now day : ℤ) (given : ℕ) (a b : ℤ) → IsBaseInstant instant zone now day given a
    → IsBaseInstant instant zone now day given b → a ≡ b
one_start true zone now day given a b first second = first ∙ sym second
one_start false zone now day given a b first second = one_instant zone day given a b first second

one_answer : (now start end : ℤ) (a b : Result ℕ DateFault) → IsAnswer now start end a → IsAnswer now start end b → a ≡ b
one_answer now start end (Ok m) (Ok n) first second = ap Ok (first.2 ∙ sym second.2)
one_answer now start end (Ok m) (Err Past) first second = absurd (omega (arith, first.2, first.3, second.2))
one_answer now start end (Ok m) (Err OutOfRange) first second = absurd (second (first.0, first.1))
one_answer now start end (Err Past) (Ok n) first second = absurd (omega (arith, second.2, second.3, first.2))
one_answer now start end (Err Past) (Err Past) first second = refl
one_answer now start end (Err Past) (Err OutOfRange) first second = absurd (second (first.0, first.1))
one_answer now start end (Err OutOfRange) (Ok n) first second = absurd (first (second.0, second.1))
one_answer now start end (Err OutOfRange) (Err Past) first second = absurd (first (second.0, second.1))
one_answer now start end (Err OutOfRange) (Err OutOfRange) first second = refl
one_answer now start end (Err NoSuchDay) b first second = absurd first
one_answer now start end (Err Memory) b first second = absurd first
one_answer now start end (Ok m) (Err NoSuchDay) first second = absurd second
one_answer now start end (Ok m) (Err Memory) first second = absurd second
one_answer now start end (Err Past) (Err NoSuchDay) first second = absurd second
one_answer now start end (Err Past) (Err Memory) first second = absurd second
one_answer now start end (Err OutOfRange) (Err NoSuchDay) first second = absurd second
one_answer now start end (Err OutOfRange) (Err Memory) first second = absurd second

one_outcome : (instant : Bool) (zone : Zone) (now : ℤ) (date : Date) (given : ℕ) (later : Option Increment) (a b : Result ℕ DateFault)
    → Becomes instant zone now date given later a → Becomes instant zone now date given later b → a ≡ b
one_outcome instant zone now date given later a b (leaves out) (leaves also) = refl
one_outcome instant zone now date given later a b (leaves out) (stays start result within is_start answer) = absurd (out within)
one_outcome instant zone now date given later a b (stays start result within is_start answer) (leaves out) = absurd (out within)
one_outcome instant zone now date given later a b (stays start result within is_start answer)
    (stays other_start other other_within is_other other_answer) =
    let same = one_start instant zone now _ given start other_start is_start is_other in
    one_answer now start _ result other answer (subst (λ s. IsAnswer now s (s +ℤ pos (later_seconds later)) other) (sym same) other_answer)

pub one_meaning : (spec : Timespec) (now : ℤ) (zone : Zone) (a b : Result ℕ DateFault) → TimespecMeans spec now zone a
    → TimespecMeans spec now zone b → a ≡ b
one_meaning spec now zone a b (no_day today time shows none) (no_day today₂ time₂ shows₂ none₂) = refl
one_meaning spec now zone a b (no_day today time shows none) (picked today₂ date₂ time₂ result₂ shows₂ pick₂ becomes₂) =
    let same = one_now _ now today today₂ time time₂ shows shows₂ in
    absurd (none_picked spec.date _ today₂ time₂ date₂ (subst (NamesNoDay spec.date) same.0 none) pick₂)
one_meaning spec now zone a b (picked today date time result shows pick becomes) (no_day today₂ time₂ shows₂ none₂) =
    let same = one_now _ now today₂ today time₂ time shows₂ shows in
    absurd (none_picked spec.date _ today time date (subst (NamesNoDay spec.date) same.0 none₂) pick)
one_meaning spec now zone a b (picked today date time result shows pick becomes) (picked today₂ date₂ time₂ result₂ shows₂ pick₂ becomes₂) =
    let same = one_now _ now today₂ today time₂ time shows₂ shows in
    let pick₃ = subst (λ t. IsPicked spec.date (given_second spec.clock t) today t date₂) same.1
    (subst (λ d. IsPicked spec.date (given_second spec.clock time₂) d time₂ date₂) same.0 pick₂) in
    let date_same = one_picked spec.date _ today time date₂ date pick₃ pick in
    one_outcome _ _ now date (given_second spec.clock time) spec.increment result result₂ becomes
    (subst (λ t. Becomes (is_instant spec.clock spec.increment) (zone_meant spec.clock zone) now date (given_second spec.clock t)
    spec.increment result₂) same.1
    (subst (λ d. Becomes (is_instant spec.clock spec.increment) (zone_meant spec.clock zone) now d (given_second spec.clock time₂)
    spec.increment result₂) date_same becomes₂))

pub one_touch_meaning : (time : TouchTime) (now : ℤ) (zone : Zone) (a b : Result ℕ DateFault) → TouchMeans time now zone a
    → TouchMeans time now zone b → a ≡ b
one_touch_meaning time now zone a b (touch_no_day today second shows none) (touch_no_day today₂ second₂ shows₂ none₂) = refl
one_touch_meaning time now zone a b (touch_no_day today second shows none) (touch_named today₂ date₂ second₂ result₂ shows₂ day₂ becomes₂) =
    let same = one_now zone now today₂ today second₂ second shows₂ shows in
    absurd
    (none (is_civil _ time.month time.day date₂ (subst (λ d. IsDateOf (year_of_touch time.year d) time.month time.day date₂) same.0 day₂)))
one_touch_meaning time now zone a b (touch_named today date second result shows day becomes) (touch_no_day today₂ second₂ shows₂ none₂) =
    let same = one_now zone now today today₂ second second₂ shows shows₂ in
    absurd
    (none₂ (is_civil _ time.month time.day date (subst (λ d. IsDateOf (year_of_touch time.year d) time.month time.day date) same.0 day)))
one_touch_meaning time now zone a b (touch_named today date second result shows day becomes)
    (touch_named today₂ date₂ second₂ result₂ shows₂ day₂ becomes₂) =
    let same = one_now zone now today₂ today second₂ second shows₂ shows in
    let date_same = one_day _ time.month time.day date₂ date
    (subst (λ d. IsDateOf (year_of_touch time.year d) time.month time.day date₂) same.0 day₂) day in
    one_outcome false zone now date _ None result result₂ becomes
    (subst (λ d. Becomes false zone now d (time.hour * SECONDS_AN_HOUR + time.minute * 60) None result₂) date_same becomes₂)
