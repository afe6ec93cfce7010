-- The numbers of a timespec are within their ranges.
use Rattle.std.proofs.Common.{◌≡◌, ℕ, ◌/◌, ◌%◌, ◌≤◌, true, List, Some, arith}
use Rattle.timespec_grammar.specs.declared.date.DatePart.TheVariants as date
use Rattle.std.proofs.lemmas.Bool.Decides.{nat_tests}
use Rattle.timespec_lexer.specs.declared.token.Token.{Token}
use Rattle.timespec_grammar.specs.declared.clock.Clock.{Clock}
use Rattle.timespec_grammar.specs.declared.date.DatePart.{DatePart}
use Rattle.timespec_grammar.specs.declared.increment.Increment.{Increment}
use Rattle.timespec_grammar.specs.declared.timespec.Timespec.{Timespec}
use Rattle.timespec_grammar.specs.declared.numbers.TheConstants.{MAX_COUNT}
use Rattle.timespec_grammar.specs.Grammar as grammar
use Rattle.timespec_grammar.specs.Grammar.{IsClock24, IsClock12, IsHalf, IsTime, IsDate, IsIncrement, Spells, IsClockInRange, IsDateInRange, IsTimespecInRange}
use Rattle.timespec_grammar.specs.Numbers.{is_hour, is_hour_minute, is_minute, is_month, is_month_number, is_weekday_number, is_day_number, is_year, is_count}

hour_small : (digits value : ℕ) → is_hour digits value ≡ true → value ≤ 23
hour_small digits value fits = grind (arith, nat_tests)

minute_small : (digits value : ℕ) → is_minute digits value ≡ true → value ≤ 59
minute_small digits value fits = grind (arith, nat_tests)

four_hour : (digits value : ℕ) → is_hour_minute digits value ≡ true → value / 100 ≤ 23
four_hour digits value fits = grind (arith, nat_tests)

four_minute : (digits value : ℕ) → is_hour_minute digits value ≡ true → value % 100 ≤ 59
four_minute digits value fits = grind (arith, nat_tests)

month_some : (month : ℕ) → is_month month ≡ true → 1 ≤ month
month_some month fits = grind (arith, nat_tests)

month_small : (month : ℕ) → is_month month ≡ true → month ≤ 12
month_small month fits = grind (arith, nat_tests)

number_month : (digits value : ℕ) → is_month_number digits value ≡ true → is_month value ≡ true
number_month digits value fits = grind (arith, nat_tests)

weekday_small : (day : ℕ) → is_weekday_number day ≡ true → day ≤ 6
weekday_small day fits = grind (arith, nat_tests)

day_small : (digits value : ℕ) → is_day_number digits value ≡ true → value ≤ 99
day_small digits value fits = grind (arith, nat_tests)

year_small : (digits value : ℕ) → is_year digits value ≡ true → value ≤ 9999
year_small digits value fits = grind (arith, nat_tests)

count_small : (digits value : ℕ) → is_count digits value ≡ true → value ≤ MAX_COUNT
count_small digits value fits = grind (arith, nat_tests)

-- an hour and a minute of a day
clock24_range : (tokens : List Token) (hour minute : ℕ) → IsClock24 tokens hour minute → (hour ≤ 23) × (minute ≤ 59)
clock24_range _ _ _ (grammar.hour_alone digits value fits) = (hour_small digits value fits, omega arith)
clock24_range _ _ _ (grammar.hour_minute digits value fits) = (four_hour digits value fits, four_minute digits value fits)
clock24_range _ _ _ (grammar.hour_colon digits value count number fits small) =
    (hour_small digits value fits, minute_small count number small)

half_range : (half : Token) (twelve hour : ℕ) → IsHalf half twelve hour → hour ≤ 23
half_range _ _ _ (grammar.am hour) = omega arith
half_range _ _ _ (grammar.pm hour) = omega arith

time_range : (tokens : List Token) (at : Clock) → IsTime tokens at → IsClockInRange at
time_range _ _ (grammar.clock24 tokens hour minute is) = clock24_range tokens hour minute is
time_range _ _ (grammar.clock24_utc tokens hour minute is) = clock24_range tokens hour minute is
time_range _ _ (grammar.clock12 tokens twelve hour minute half is which) =
    (half_range half twelve hour which, (clock24_range tokens twelve minute is.same).1)
time_range _ _ (grammar.clock12_utc tokens twelve hour minute half is which) =
    (half_range half twelve hour which, (clock24_range tokens twelve minute is.same).1)
time_range _ _ grammar.noon = (omega arith, omega arith)
time_range _ _ grammar.midnight = (omega arith, omega arith)
time_range _ _ grammar.teatime = (omega arith, omega arith)

-- a month, a day and a year that were given in numbers
numbers_range : (month_digits month digits day year_digits year : ℕ) → is_month_number month_digits month ≡ true
    → is_day_number digits day ≡ true → is_year year_digits year ≡ true → IsDateInRange (date.MonthDay month day (Some year))
numbers_range month_digits month digits day year_digits year fits known four =
    let named : is_month month ≡ true = number_month month_digits month fits in
    (month_some month named, month_small month named, day_small digits day known, year_small year_digits year four)

date_range : (tokens : List Token) (day : DatePart) → IsDate tokens day → IsDateInRange day
date_range _ _ (grammar.month_day month digits day fits known) =
    (month_some month fits, month_small month fits, day_small digits day known, tt)
date_range _ _ (grammar.month_day_year month digits day count year fits known four) =
    (month_some month fits, month_small month fits, day_small digits day known, year_small count year four)
date_range _ _ (grammar.slashes month_digits month digits day count year fits known four) =
    numbers_range month_digits month digits day count year fits known four
date_range _ _ (grammar.dots month_digits month digits day count year fits known four) =
    numbers_range month_digits month digits day count year fits known four
date_range _ _ (grammar.dashes month_digits month digits day count year fits known four) =
    numbers_range month_digits month digits day count year fits known four
date_range _ _ (grammar.weekday day fits) = weekday_small day fits
date_range _ _ grammar.today = tt
date_range _ _ grammar.tomorrow = tt

increment_range : (tokens : List Token) (by : Increment) → IsIncrement tokens by → by.count ≤ MAX_COUNT
increment_range _ _ (grammar.plus digits count period fits) = count_small digits count fits
increment_range _ _ (grammar.next period) = omega arith

-- whatever is spelled
pub spells_in_range : (tokens : List Token) (spec : Timespec) → Spells tokens spec → IsTimespecInRange spec
spells_in_range _ _ (grammar.time times at is) =
    record { clock_fits = time_range times at is; date_fits = tt; count_fits = tt }
spells_in_range _ _ (grammar.time_date times dates at day is that) =
    record { clock_fits = time_range times at is; date_fits = date_range dates day that; count_fits = tt }
spells_in_range _ _ (grammar.time_increment times later at by is onward) =
    record { clock_fits = time_range times at is; date_fits = tt; count_fits = increment_range later by onward }
spells_in_range _ _ (grammar.time_date_increment times dates later at day by is that onward) =
    record {
      clock_fits = time_range times at is;
      date_fits = date_range dates day that;
      count_fits = increment_range later by onward;
    }
spells_in_range _ _ grammar.now = record { clock_fits = tt; date_fits = tt; count_fits = tt }
spells_in_range _ _ (grammar.now_increment later by onward) =
    record { clock_fits = tt; date_fits = tt; count_fits = increment_range later by onward }
