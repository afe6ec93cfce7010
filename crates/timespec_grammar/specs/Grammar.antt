-- The grammar of a time (POSIX.1-2017, XCU, at: timespec; teatime and the three dates in numbers: Debian's at(1)). The one
-- zone is `utc`, which is this project's own. Each relation has a case for each production, text first and value last.
use Rattle.std.specs.Prelude.{ℕ, ◌+◌, ◌/◌, ◌%◌, ◌≤◌, true, false, List, [], ◌∷◌, ◌++◌, map, IsTrue, ⊤, IfSome, Option, Some, None}
use Rattle.timespec_lexer.specs.declared.token.Token.{Token}
use Rattle.timespec_lexer.specs.declared.token.Token.TheVariants as token
use Rattle.timespec_lexer.specs.declared.placed.Placed.{Placed}
use Rattle.timespec_lexer.specs.declared.period.Period.{Period}
use Rattle.timespec_grammar.specs.declared.clock.Clock.{Clock}
use Rattle.timespec_grammar.specs.declared.clock.Clock.TheVariants as clock
use Rattle.timespec_grammar.specs.declared.date.DatePart.{DatePart}
use Rattle.timespec_grammar.specs.declared.date.DatePart.TheVariants as date
use Rattle.timespec_grammar.specs.declared.increment.Increment.{Increment}
use Rattle.timespec_grammar.specs.declared.timespec.Timespec.{Timespec}
use Rattle.timespec_grammar.specs.declared.numbers.TheConstants.{MAX_COUNT}
use Rattle.timespec_grammar.specs.Numbers.{is_hour, is_hour_minute, is_twelve, is_minute, is_month, is_month_number, is_weekday_number, is_day_number, is_year, is_count}

-- an hour and a minute of the 24-hour clock
pub data IsClock24 : List Token → ℕ → ℕ → Type 0 where
  hour_alone : (digits value : ℕ) → IsTrue (is_hour digits value)
      → IsClock24 (token.Number digits value ∷ []) value 0
  hour_minute : (digits value : ℕ) → IsTrue (is_hour_minute digits value)
      → IsClock24 (token.Number digits value ∷ []) (value / 100) (value % 100)
  hour_colon : (digits value minute_digits minute : ℕ) → IsTrue (is_hour digits value)
      → IsTrue (is_minute minute_digits minute)
      → IsClock24 (token.Number digits value ∷ token.Colon ∷ token.Number minute_digits minute ∷ []) value minute

-- an hour and a minute of the 12-hour clock: the same, with an hour from 1 to 12
pub record IsClock12 (tokens : List Token) (hour minute : ℕ) : Type 0 where
  pub same : IsClock24 tokens hour minute
  pub twelve : IsTrue (is_twelve hour)

-- the half of the day, and the hour of the 24-hour clock for one of the 12-hour clock
pub data IsHalf : Token → ℕ → ℕ → Type 0 where
  am : (hour : ℕ) → IsHalf token.Am hour (hour % 12)
  pm : (hour : ℕ) → IsHalf token.Pm hour (hour % 12 + 12)

-- a time of day
pub data IsTime : List Token → Clock → Type 0 where
  clock24 : (tokens : List Token) (hour minute : ℕ) → IsClock24 tokens hour minute
      → IsTime tokens (clock.At hour minute false)
  clock24_utc : (tokens : List Token) (hour minute : ℕ) → IsClock24 tokens hour minute
      → IsTime (tokens ++ token.Utc ∷ []) (clock.At hour minute true)
  clock12 : (tokens : List Token) (twelve hour minute : ℕ) (half : Token)
      → IsClock12 tokens twelve minute → IsHalf half twelve hour
      → IsTime (tokens ++ half ∷ []) (clock.At hour minute false)
  clock12_utc : (tokens : List Token) (twelve hour minute : ℕ) (half : Token)
      → IsClock12 tokens twelve minute → IsHalf half twelve hour
      → IsTime (tokens ++ half ∷ token.Utc ∷ []) (clock.At hour minute true)
  noon : IsTime (token.Noon ∷ []) (clock.At 12 0 false)
  midnight : IsTime (token.Midnight ∷ []) (clock.At 0 0 false)
  teatime : IsTime (token.Teatime ∷ []) (clock.At 16 0 false)

-- a date
pub data IsDate : List Token → DatePart → Type 0 where
  month_day : (month digits day : ℕ) → IsTrue (is_month month) → IsTrue (is_day_number digits day)
      → IsDate (token.Month month ∷ token.Number digits day ∷ []) (date.MonthDay month day None)
  month_day_year : (month digits day year_digits year : ℕ) → IsTrue (is_month month)
      → IsTrue (is_day_number digits day) → IsTrue (is_year year_digits year)
      → IsDate
      (token.Month month ∷ token.Number digits day ∷ token.Comma ∷ token.Number year_digits year ∷ [])
      (date.MonthDay month day (Some year))
  slashes : (month_digits month digits day year_digits year : ℕ) → IsTrue (is_month_number month_digits month)
      → IsTrue (is_day_number digits day) → IsTrue (is_year year_digits year)
      → IsDate
      (token.Number month_digits month ∷ token.Slash ∷ token.Number digits day ∷ token.Slash ∷ token.Number year_digits year ∷ [])
      (date.MonthDay month day (Some year))
  dots : (month_digits month digits day year_digits year : ℕ) → IsTrue (is_month_number month_digits month)
      → IsTrue (is_day_number digits day) → IsTrue (is_year year_digits year)
      → IsDate
      (token.Number digits day ∷ token.Dot ∷ token.Number month_digits month ∷ token.Dot ∷ token.Number year_digits year ∷ [])
      (date.MonthDay month day (Some year))
  dashes : (month_digits month digits day year_digits year : ℕ) → IsTrue (is_month_number month_digits month)
      → IsTrue (is_day_number digits day) → IsTrue (is_year year_digits year)
      → IsDate
      (token.Number year_digits year ∷ token.Dash ∷ token.Number month_digits month ∷ token.Dash ∷ token.Number digits day ∷ [])
      (date.MonthDay month day (Some year))
  weekday : (day : ℕ) → IsTrue (is_weekday_number day) → IsDate (token.Weekday day ∷ []) (date.Weekday day)
  today : IsDate (token.Today ∷ []) date.Today
  tomorrow : IsDate (token.Tomorrow ∷ []) date.Tomorrow

-- an increment
pub data IsIncrement : List Token → Increment → Type 0 where
  plus : (digits count : ℕ) (period : Period) → IsTrue (is_count digits count)
      → IsIncrement (token.Plus ∷ token.Number digits count ∷ token.Unit period ∷ [])
      (record { count = count; period = period })
  next : (period : Period) → IsIncrement (token.Next ∷ token.Unit period ∷ [])
      (record { count = 1; period = period })

-- a timespec of these parts
abbrev pub timespec_of : Clock → DatePart → Option Increment → Timespec
timespec_of time day later = record { clock = time; date = day; increment = later }

-- the tokens spell the timespec
pub data Spells : List Token → Timespec → Type 0 where
  time : (times : List Token) (at : Clock) → IsTime times at
      → Spells times (timespec_of at date.Absent None)
  time_date : (times dates : List Token) (at : Clock) (day : DatePart) → IsTime times at
      → IsDate dates day → Spells (times ++ dates) (timespec_of at day None)
  time_increment : (times later : List Token) (at : Clock) (by : Increment) → IsTime times at
      → IsIncrement later by → Spells (times ++ later) (timespec_of at date.Absent (Some by))
  time_date_increment : (times dates later : List Token) (at : Clock) (day : DatePart)
      (by : Increment) → IsTime times at → IsDate dates day → IsIncrement later by
      → Spells (times ++ dates ++ later) (timespec_of at day (Some by))
  now : Spells (token.Now ∷ []) (timespec_of clock.Now date.Absent None)
  now_increment : (later : List Token) (by : Increment) → IsIncrement later by
      → Spells (token.Now ∷ later) (timespec_of clock.Now date.Absent (Some by))

-- the tokens without their places
abbrev pub tokens_of : List Placed → List Token
tokens_of placed = map (λ one. one.token) placed

-- an hour and a minute of a day
abbrev pub IsClockInRange : Clock → Type 0
IsClockInRange clock.Now = ⊤
IsClockInRange (clock.At hour minute utc) = (hour ≤ 23) × (minute ≤ 59)

-- a month, a day of two digits and a year of four, or a day of the week
abbrev pub IsDateInRange : DatePart → Type 0
IsDateInRange (date.MonthDay month day year) =
    (1 ≤ month) × (month ≤ 12) × (day ≤ 99) × IfSome year (λ given. given ≤ 9999)
IsDateInRange (date.Weekday day) = day ≤ 6
IsDateInRange _ = ⊤

-- the numbers of a timespec are within their ranges
pub record IsTimespecInRange (spec : Timespec) : Type 0 where
  pub clock_fits : IsClockInRange spec.clock
  pub date_fits : IsDateInRange spec.date
  pub count_fits : IfSome spec.increment (λ by. by.count ≤ MAX_COUNT)
