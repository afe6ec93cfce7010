-- What the tokens are that were read so far, and how they can go on.
use Rattle.std.proofs.Common.{◌≡◌, ℕ, ◌+◌, ◌/◌, ◌%◌, Bool, true, false, List, [], ◌∷◌, ◌++◌, refl, subst, append_assoc, append-nil, Option, Some, None}
use Rattle.std.specs.Prelude.{IsTrue, IfSome, option_and_then, if◌then◌else◌}
use Rattle.timespec_lexer.specs.declared.token.Token.{Token}
use Rattle.timespec_lexer.specs.declared.token.Token.TheVariants as token
use Rattle.timespec_grammar.specs.declared.clock.Clock.{Clock}
use Rattle.timespec_grammar.specs.declared.clock.Clock.TheVariants as clock
use Rattle.timespec_grammar.specs.declared.date.DatePart.{DatePart}
use Rattle.timespec_grammar.specs.declared.date.DatePart.TheVariants as date
use Rattle.timespec_grammar.specs.declared.increment.Increment.{Increment}
use Rattle.timespec_grammar.specs.declared.timespec.Timespec.{Timespec}
use Rattle.timespec_grammar.specs.declared.read.Read.{Read}
use Rattle.timespec_grammar.specs.declared.read.Read.TheVariants as read
use Rattle.timespec_grammar.specs.Grammar as grammar
use Rattle.timespec_grammar.specs.Grammar.{IsClock24, IsClock12, IsHalf, IsTime, IsDate, IsIncrement, Spells, timespec_of}
use Rattle.timespec_grammar.specs.Numbers.{is_hour, is_hour_minute, is_twelve, is_minute, is_month, is_month_number, is_weekday_number, is_day_number, is_year, is_date_number, is_count}
use Rattle.timespec_grammar.specs.inside.Steps.{begin, after_colon, after_date, after_time, after_half, after_minute, after_hour, after_month, after_day, after_plus, after_count, year_due, after_number, after_slash, second_slash, after_dot, second_dot, after_dash, second_dash, day_due, step}

-- what may come before an increment
pub data Opens : List Token → Clock → DatePart → Type 0 where
  opens_now : Opens (token.Now ∷ []) clock.Now date.Absent
  opens_time : (tokens : List Token) (at : Clock) → IsTime tokens at → Opens tokens at date.Absent
  opens_date : (tokens dates : List Token) (at : Clock) (day : DatePart) → IsTime tokens at → IsDate dates day
      → Opens (tokens ++ dates) at day

-- it is a timespec
pub opens_alone : (tokens : List Token) (at : Clock) (day : DatePart) → Opens tokens at day
    → Spells tokens (timespec_of at day None)
opens_alone _ _ _ opens_now = grammar.now
opens_alone _ _ _ (opens_time tokens at time) = grammar.time tokens at time
opens_alone _ _ _ (opens_date tokens dates at day time it) = grammar.time_date tokens dates at day time it

-- and it is one with an increment
pub opens_later : (tokens later : List Token) (at : Clock) (day : DatePart) (by : Increment) → Opens tokens at day
    → IsIncrement later by → Spells (tokens ++ later) (timespec_of at day (Some by))
opens_later _ later _ _ by opens_now more = grammar.now_increment later by more
opens_later _ later _ _ by (opens_time tokens at time) more = grammar.time_increment tokens later at by time more
opens_later _ later _ _ by (opens_date tokens dates at day time it) more =
    grammar.time_date_increment tokens dates later at day by time it more

-- the tokens of a date up to its year
pub data BeforeYear : List Token → ℕ → ℕ → Type 0 where
  comma : (month digits day : ℕ) → IsTrue (is_month month) → IsTrue (is_day_number digits day)
      → BeforeYear (token.Month month ∷ token.Number digits day ∷ token.Comma ∷ []) month day
  slashes : (month_digits month digits day : ℕ) → IsTrue (is_month_number month_digits month) → IsTrue (is_day_number digits day)
      → BeforeYear (token.Number month_digits month ∷ token.Slash ∷ token.Number digits day ∷ token.Slash ∷ []) month day
  dots : (month_digits month digits day : ℕ) → IsTrue (is_month_number month_digits month) → IsTrue (is_day_number digits day)
      → BeforeYear (token.Number digits day ∷ token.Dot ∷ token.Number month_digits month ∷ token.Dot ∷ []) month day

-- with its year it is a date
pub with_year : (tokens : List Token) (month day digits year : ℕ) → BeforeYear tokens month day → IsTrue (is_year digits year)
    → IsDate (tokens ++ token.Number digits year ∷ []) (date.MonthDay month day (Some year))
with_year _ _ _ digits year (comma number digits' day fits known) four =
    grammar.month_day_year number digits' day digits year fits known four
with_year _ _ _ digits year (slashes month_digits number digits' day fits known) four =
    grammar.slashes month_digits number digits' day digits year fits known four
with_year _ _ _ digits year (dots month_digits number digits' day fits known) four =
    grammar.dots month_digits number digits' day digits year fits known four

-- the tokens are what was read
pub data Reads : List Token → Read → Type 0 where
  nothing_read : Reads [] read.Nothing
  hour_read : (digits hour : ℕ) → IsTrue (is_hour digits hour) → Reads (token.Number digits hour ∷ []) (read.Hour hour)
  colon_read : (digits hour : ℕ) → IsTrue (is_hour digits hour)
      → Reads (token.Number digits hour ∷ token.Colon ∷ []) (read.HourColon hour)
  minute_read : (tokens : List Token) (hour minute : ℕ) → IsClock24 tokens hour minute → Reads tokens (read.HourMinute hour minute)
  half_read : (tokens : List Token) (twelve hour minute : ℕ) (half : Token) → IsClock12 tokens twelve minute
      → IsHalf half twelve hour → Reads (tokens ++ half ∷ []) (read.Half hour minute)
  time_read : (tokens : List Token) (at : Clock) → IsTime tokens at → Reads tokens (read.Timed at)
  month_read : (tokens : List Token) (at : Clock) (month : ℕ) → IsTime tokens at → IsTrue (is_month month)
      → Reads (tokens ++ token.Month month ∷ []) (read.MonthNamed at month)
  day_read : (tokens : List Token) (at : Clock) (month digits day : ℕ) → IsTime tokens at → IsTrue (is_month month)
      → IsTrue (is_day_number digits day)
      → Reads (tokens ++ token.Month month ∷ token.Number digits day ∷ []) (read.DayNamed at month day)
  year_due_read : (tokens dates : List Token) (at : Clock) (month day : ℕ) → IsTime tokens at → BeforeYear dates month day
      → Reads (tokens ++ dates) (read.YearDue at month day)
  number_read : (tokens : List Token) (at : Clock) (digits value : ℕ) → IsTime tokens at → IsTrue (is_date_number digits value)
      → Reads (tokens ++ token.Number digits value ∷ []) (read.DateNumber at digits value)
  slash_read : (tokens : List Token) (at : Clock) (digits month : ℕ) → IsTime tokens at → IsTrue (is_month_number digits month)
      → Reads (tokens ++ token.Number digits month ∷ token.Slash ∷ []) (read.MonthSlash at month)
  slash_day_read : (tokens : List Token) (at : Clock) (month_digits month digits day : ℕ) → IsTime tokens at
      → IsTrue (is_month_number month_digits month) → IsTrue (is_day_number digits day)
      → Reads (tokens ++ token.Number month_digits month ∷ token.Slash ∷ token.Number digits day ∷ []) (read.SlashDay at month day)
  dot_read : (tokens : List Token) (at : Clock) (digits day : ℕ) → IsTime tokens at → IsTrue (is_day_number digits day)
      → Reads (tokens ++ token.Number digits day ∷ token.Dot ∷ []) (read.DayDot at day)
  dot_month_read : (tokens : List Token) (at : Clock) (month_digits month digits day : ℕ) → IsTime tokens at
      → IsTrue (is_month_number month_digits month) → IsTrue (is_day_number digits day)
      → Reads (tokens ++ token.Number digits day ∷ token.Dot ∷ token.Number month_digits month ∷ []) (read.DotMonth at month day)
  dash_read : (tokens : List Token) (at : Clock) (digits year : ℕ) → IsTime tokens at → IsTrue (is_year digits year)
      → Reads (tokens ++ token.Number digits year ∷ token.Dash ∷ []) (read.YearDash at year)
  dash_month_read : (tokens : List Token) (at : Clock) (month_digits month digits year : ℕ) → IsTime tokens at
      → IsTrue (is_month_number month_digits month) → IsTrue (is_year digits year)
      → Reads (tokens ++ token.Number digits year ∷ token.Dash ∷ token.Number month_digits month ∷ []) (read.DashMonth at month year)
  day_due_read : (tokens : List Token) (at : Clock) (month_digits month digits year : ℕ) → IsTime tokens at
      → IsTrue (is_month_number month_digits month) → IsTrue (is_year digits year)
      → Reads (tokens ++ token.Number digits year ∷ token.Dash ∷ token.Number month_digits month ∷ token.Dash ∷ [])
      (read.DayDue at month year)
  opening_read : (tokens : List Token) (at : Clock) (day : DatePart) → Opens tokens at day → Reads tokens (read.Dated at day)
  added_read : (tokens : List Token) (at : Clock) (day : DatePart) → Opens tokens at day
      → Reads (tokens ++ token.Plus ∷ []) (read.Added at day)
  counted_read : (tokens : List Token) (at : Clock) (day : DatePart) (digits count : ℕ) → Opens tokens at day
      → IsTrue (is_count digits count)
      → Reads (tokens ++ token.Plus ∷ token.Number digits count ∷ []) (read.Counted at day count)
  following_read : (tokens : List Token) (at : Clock) (day : DatePart) → Opens tokens at day
      → Reads (tokens ++ token.Next ∷ []) (read.Following at day)
  whole_read : (tokens : List Token) (spec : Timespec) → Spells tokens spec → Reads tokens (read.Whole spec)

-- the choice of a test keeps what holds of both sides
chosen : (P : Read → Type 0) (test : Bool) (onward : Read) (other : Option Read) → (test ≡ true → P onward)
    → IfSome other P → IfSome (if test then Some onward else other) P
chosen P true onward other holds fails = holds refl
chosen P false onward other holds fails = fails

-- with a token that may follow, the tokens are what is read then
abbrev Goes : List Token → Token → Option Read → Type 0
Goes tokens coming more = IfSome more (Reads (tokens ++ coming ∷ []))

date_goes : (tokens : List Token) (at : Clock) (day : DatePart) (coming : Token) → Opens tokens at day
    → Goes tokens coming (after_date at day coming)
date_goes tokens at day token.Plus opens = added_read tokens at day opens
date_goes tokens at day token.Next opens = following_read tokens at day opens
date_goes tokens at day _ opens = tt

time_goes : (tokens : List Token) (at : Clock) (coming : Token) → IsTime tokens at → Goes tokens coming (after_time at coming)
time_goes tokens at (token.Month number) is =
    chosen (Reads (tokens ++ token.Month number ∷ [])) (is_month number) (read.MonthNamed at number) None
    (λ fits. month_read tokens at number is fits) tt
time_goes tokens at (token.Weekday number) is =
    chosen (Reads (tokens ++ token.Weekday number ∷ [])) (is_weekday_number number) (read.Dated at (date.Weekday number)) None
    (λ fits. opening_read (tokens ++ token.Weekday number ∷ []) at (date.Weekday number)
    (opens_date tokens (token.Weekday number ∷ []) at (date.Weekday number) is (grammar.weekday number fits))) tt
time_goes tokens at (token.Number digits value) is =
    chosen (Reads (tokens ++ token.Number digits value ∷ [])) (is_date_number digits value) (read.DateNumber at digits value) None
    (λ fits. number_read tokens at digits value is fits) tt
time_goes tokens at token.Today is =
    opening_read (tokens ++ token.Today ∷ []) at date.Today (opens_date tokens (token.Today ∷ []) at date.Today is grammar.today)
time_goes tokens at token.Tomorrow is =
    opening_read (tokens ++ token.Tomorrow ∷ []) at date.Tomorrow
    (opens_date tokens (token.Tomorrow ∷ []) at date.Tomorrow is grammar.tomorrow)
time_goes tokens at coming is = date_goes tokens at date.Absent coming (opens_time tokens at is)

half_goes : (tokens : List Token) (hour minute : ℕ) (coming : Token) → IsTime tokens (clock.At hour minute false)
    → IsTime (tokens ++ token.Utc ∷ []) (clock.At hour minute true) → Goes tokens coming (after_half hour minute coming)
half_goes tokens hour minute token.Utc is zoned = time_read (tokens ++ token.Utc ∷ []) (clock.At hour minute true) zoned
half_goes tokens hour minute coming is zoned = time_goes tokens (clock.At hour minute false) coming is

minute_goes : (tokens : List Token) (hour minute : ℕ) (coming : Token) → IsClock24 tokens hour minute
    → Goes tokens coming (after_minute hour minute coming)
minute_goes tokens hour minute token.Am is =
    chosen (Reads (tokens ++ token.Am ∷ [])) (is_twelve hour) (read.Half (hour % 12) minute) None
    (λ fits. half_read tokens hour (hour % 12) minute token.Am (record { same = is; twelve = fits }) (grammar.am hour)) tt
minute_goes tokens hour minute token.Pm is =
    chosen (Reads (tokens ++ token.Pm ∷ [])) (is_twelve hour) (read.Half (hour % 12 + 12) minute) None
    (λ fits. half_read tokens hour (hour % 12 + 12) minute token.Pm (record { same = is; twelve = fits }) (grammar.pm hour)) tt
minute_goes tokens hour minute coming is =
    half_goes tokens hour minute coming (grammar.clock24 tokens hour minute is) (grammar.clock24_utc tokens hour minute is)

hour_goes : (digits value : ℕ) (coming : Token) → IsTrue (is_hour digits value)
    → Goes (token.Number digits value ∷ []) coming (after_hour value coming)
hour_goes digits value token.Colon is = colon_read digits value is
hour_goes digits value coming is = minute_goes (token.Number digits value ∷ []) value 0 coming (grammar.hour_alone digits value is)

colon_goes : (digits value : ℕ) (coming : Token) → IsTrue (is_hour digits value)
    → Goes (token.Number digits value ∷ token.Colon ∷ []) coming (after_colon value coming)
colon_goes digits value (token.Number count number) is =
    chosen (Reads (token.Number digits value ∷ token.Colon ∷ token.Number count number ∷ [])) (is_minute count number)
    (read.HourMinute value number) None
    (λ fits. minute_read (token.Number digits value ∷ token.Colon ∷ token.Number count number ∷ []) value number
    (grammar.hour_colon digits value count number is fits)) tt
colon_goes digits value _ is = tt

first_goes : (coming : Token) → Goes [] coming (begin coming)
first_goes (token.Number digits value) =
    chosen (Reads (token.Number digits value ∷ [])) (is_hour digits value) (read.Hour value) _
    (λ fits. hour_read digits value fits)
    (chosen (Reads (token.Number digits value ∷ [])) (is_hour_minute digits value) (read.HourMinute (value / 100) (value % 100)) None
    (λ fits. minute_read (token.Number digits value ∷ []) (value / 100) (value % 100) (grammar.hour_minute digits value fits)) tt)
first_goes token.Now = opening_read (token.Now ∷ []) clock.Now date.Absent opens_now
first_goes token.Noon = time_read (token.Noon ∷ []) (clock.At 12 0 false) grammar.noon
first_goes token.Midnight = time_read (token.Midnight ∷ []) (clock.At 0 0 false) grammar.midnight
first_goes token.Teatime = time_read (token.Teatime ∷ []) (clock.At 16 0 false) grammar.teatime
first_goes _ = tt

month_goes : (tokens : List Token) (at : Clock) (number : ℕ) (coming : Token) → IsTime tokens at → IsTrue (is_month number)
    → Goes (tokens ++ token.Month number ∷ []) coming (after_month at number coming)
month_goes tokens at number (token.Number digits value) is fits =
    chosen (Reads ((tokens ++ token.Month number ∷ []) ++ token.Number digits value ∷ [])) (is_day_number digits value)
    (read.DayNamed at number value) None
    (λ known. rw append_assoc (day_read tokens at number digits value is fits known)) tt
month_goes tokens at number _ is fits = tt

day_goes : (tokens : List Token) (at : Clock) (number digits value : ℕ) (coming : Token) → IsTime tokens at
    → IsTrue (is_month number) → IsTrue (is_day_number digits value)
    → Goes (tokens ++ token.Month number ∷ token.Number digits value ∷ []) coming (after_day at number value coming)
day_goes tokens at number digits value token.Comma is fits known =
    rw append_assoc (year_due_read tokens (token.Month number ∷ token.Number digits value ∷ token.Comma ∷ []) at number value is
    (comma number digits value fits known))
day_goes tokens at number digits value coming is fits known =
    date_goes (tokens ++ token.Month number ∷ token.Number digits value ∷ []) at (date.MonthDay number value None) coming
    (opens_date tokens (token.Month number ∷ token.Number digits value ∷ []) at (date.MonthDay number value None) is
    (grammar.month_day number digits value fits known))

year_goes : (tokens dates : List Token) (at : Clock) (number value : ℕ) (coming : Token) → IsTime tokens at
    → BeforeYear dates number value → Goes (tokens ++ dates) coming (year_due at number value coming)
year_goes tokens dates at number value (token.Number count year) is before =
    chosen (Reads ((tokens ++ dates) ++ token.Number count year ∷ []))
    (is_year count year) (read.Dated at (date.MonthDay number value (Some year))) None
    (λ four. rw append_assoc (opening_read (tokens ++ (dates ++ token.Number count year ∷ [])) at (date.MonthDay number value (Some year))
    (opens_date tokens (dates ++ token.Number count year ∷ []) at (date.MonthDay number value (Some year)) is
    (with_year dates number value count year before four)))) tt
year_goes tokens dates at number value _ is before = tt

number_goes : (tokens : List Token) (at : Clock) (digits value : ℕ) (coming : Token) → IsTime tokens at
    → Goes (tokens ++ token.Number digits value ∷ []) coming (after_number at digits value coming)
number_goes tokens at digits value token.Slash is =
    chosen (Reads ((tokens ++ token.Number digits value ∷ []) ++ token.Slash ∷ [])) (is_month_number digits value)
    (read.MonthSlash at value) None
    (λ fits. rw append_assoc (slash_read tokens at digits value is fits)) tt
number_goes tokens at digits value token.Dot is =
    chosen (Reads ((tokens ++ token.Number digits value ∷ []) ++ token.Dot ∷ [])) (is_day_number digits value) (read.DayDot at value) None
    (λ fits. rw append_assoc (dot_read tokens at digits value is fits)) tt
number_goes tokens at digits value token.Dash is =
    chosen (Reads ((tokens ++ token.Number digits value ∷ []) ++ token.Dash ∷ [])) (is_year digits value) (read.YearDash at value) None
    (λ fits. rw append_assoc (dash_read tokens at digits value is fits)) tt
number_goes tokens at digits value _ is = tt

slash_goes : (tokens : List Token) (at : Clock) (digits number : ℕ) (coming : Token) → IsTime tokens at
    → IsTrue (is_month_number digits number)
    → Goes (tokens ++ token.Number digits number ∷ token.Slash ∷ []) coming (after_slash at number coming)
slash_goes tokens at digits number (token.Number count value) is fits =
    chosen (Reads ((tokens ++ token.Number digits number ∷ token.Slash ∷ []) ++ token.Number count value ∷ [])) (is_day_number count value)
    (read.SlashDay at number value) None
    (λ known. rw append_assoc (slash_day_read tokens at digits number count value is fits known)) tt
slash_goes tokens at digits number _ is fits = tt

slash_day_goes : (tokens : List Token) (at : Clock) (digits number count value : ℕ) (coming : Token) → IsTime tokens at
    → IsTrue (is_month_number digits number) → IsTrue (is_day_number count value)
    → Goes (tokens ++ token.Number digits number ∷ token.Slash ∷ token.Number count value ∷ []) coming
    (second_slash at number value coming)
slash_day_goes tokens at digits number count value token.Slash is fits known =
    rw append_assoc (year_due_read tokens
    (token.Number digits number ∷ token.Slash ∷ token.Number count value ∷ token.Slash ∷ []) at number value is
    (slashes digits number count value fits known))
slash_day_goes tokens at digits number count value _ is fits known = tt

dot_goes : (tokens : List Token) (at : Clock) (count value : ℕ) (coming : Token) → IsTime tokens at
    → IsTrue (is_day_number count value)
    → Goes (tokens ++ token.Number count value ∷ token.Dot ∷ []) coming (after_dot at value coming)
dot_goes tokens at count value (token.Number digits number) is known =
    chosen (Reads ((tokens ++ token.Number count value ∷ token.Dot ∷ []) ++ token.Number digits number ∷ []))
    (is_month_number digits number) (read.DotMonth at number value) None
    (λ fits. rw append_assoc (dot_month_read tokens at digits number count value is fits known)) tt
dot_goes tokens at count value _ is known = tt

dot_month_goes : (tokens : List Token) (at : Clock) (digits number count value : ℕ) (coming : Token) → IsTime tokens at
    → IsTrue (is_month_number digits number) → IsTrue (is_day_number count value)
    → Goes (tokens ++ token.Number count value ∷ token.Dot ∷ token.Number digits number ∷ []) coming (second_dot at number value coming)
dot_month_goes tokens at digits number count value token.Dot is fits known =
    rw append_assoc (year_due_read tokens
    (token.Number count value ∷ token.Dot ∷ token.Number digits number ∷ token.Dot ∷ []) at number value is
    (dots digits number count value fits known))
dot_month_goes tokens at digits number count value _ is fits known = tt

dash_goes : (tokens : List Token) (at : Clock) (count year : ℕ) (coming : Token) → IsTime tokens at
    → IsTrue (is_year count year)
    → Goes (tokens ++ token.Number count year ∷ token.Dash ∷ []) coming (after_dash at year coming)
dash_goes tokens at count year (token.Number digits number) is four =
    chosen (Reads ((tokens ++ token.Number count year ∷ token.Dash ∷ []) ++ token.Number digits number ∷ []))
    (is_month_number digits number) (read.DashMonth at number year) None
    (λ fits. rw append_assoc (dash_month_read tokens at digits number count year is fits four)) tt
dash_goes tokens at count year _ is four = tt

dash_month_goes : (tokens : List Token) (at : Clock) (digits number count year : ℕ) (coming : Token) → IsTime tokens at
    → IsTrue (is_month_number digits number) → IsTrue (is_year count year)
    → Goes (tokens ++ token.Number count year ∷ token.Dash ∷ token.Number digits number ∷ []) coming
    (second_dash at number year coming)
dash_month_goes tokens at digits number count year token.Dash is fits four =
    rw append_assoc (day_due_read tokens at digits number count year is fits four)
dash_month_goes tokens at digits number count year _ is fits four = tt

day_due_goes : (tokens : List Token) (at : Clock) (digits number count year : ℕ) (coming : Token) → IsTime tokens at
    → IsTrue (is_month_number digits number) → IsTrue (is_year count year)
    → Goes (tokens ++ token.Number count year ∷ token.Dash ∷ token.Number digits number ∷ token.Dash ∷ []) coming
    (day_due at number year coming)
day_due_goes tokens at digits number count year (token.Number length value) is fits four =
    let all : List Token
    = token.Number count year ∷ token.Dash ∷ token.Number digits number ∷ token.Dash ∷ token.Number length value ∷ [] in
    chosen (Reads ((tokens ++ token.Number count year ∷ token.Dash ∷ token.Number digits number ∷ token.Dash ∷ [])
    ++ token.Number length value ∷ []))
    (is_day_number length value) (read.Dated at (date.MonthDay number value (Some year))) None
    (λ known. rw append_assoc (opening_read (tokens ++ all) at (date.MonthDay number value (Some year))
    (opens_date tokens all at (date.MonthDay number value (Some year)) is
    (grammar.dashes digits number length value count year fits known four)))) tt
day_due_goes tokens at digits number count year _ is fits four = tt

count_goes : (tokens : List Token) (at : Clock) (day : DatePart) (coming : Token) → Opens tokens at day
    → Goes (tokens ++ token.Plus ∷ []) coming (after_plus at day coming)
count_goes tokens at day (token.Number digits count) opens =
    chosen (Reads ((tokens ++ token.Plus ∷ []) ++ token.Number digits count ∷ [])) (is_count digits count)
    (read.Counted at day count) None
    (λ fits. rw append_assoc (counted_read tokens at day digits count opens fits)) tt
count_goes tokens at day _ opens = tt

unit_goes : (tokens : List Token) (at : Clock) (day : DatePart) (digits count : ℕ) (coming : Token) → Opens tokens at day
    → IsTrue (is_count digits count)
    → Goes (tokens ++ token.Plus ∷ token.Number digits count ∷ []) coming (after_count at day count coming)
unit_goes tokens at day digits count (token.Unit unit) opens fits =
    whole_read _ _ (rw append_assoc (opens_later tokens (token.Plus ∷ token.Number digits count ∷ token.Unit unit ∷ []) at day _ opens
    (grammar.plus digits count unit fits)))
unit_goes tokens at day digits count _ opens fits = tt

next_goes : (tokens : List Token) (at : Clock) (day : DatePart) (coming : Token) → Opens tokens at day
    → Goes (tokens ++ token.Next ∷ []) coming (after_count at day 1 coming)
next_goes tokens at day (token.Unit unit) opens =
    whole_read _ _ (rw append_assoc (opens_later tokens (token.Next ∷ token.Unit unit ∷ []) at day _ opens (grammar.next unit)))
next_goes tokens at day _ opens = tt

-- one token more, whatever was read
step_goes : (tokens : List Token) (so_far : Read) (coming : Token) → Reads tokens so_far → Goes tokens coming (step so_far coming)
step_goes _ _ coming nothing_read = first_goes coming
step_goes _ _ coming (hour_read digits value is) = hour_goes digits value coming is
step_goes _ _ coming (colon_read digits value is) = colon_goes digits value coming is
step_goes _ _ coming (minute_read tokens value number is) = minute_goes tokens value number coming is
step_goes _ _ coming (half_read tokens twelve value number it is which) =
    half_goes (tokens ++ it ∷ []) value number coming (grammar.clock12 tokens twelve value number it is which)
    (rw append_assoc (grammar.clock12_utc tokens twelve value number it is which))
step_goes _ _ coming (time_read tokens at is) = time_goes tokens at coming is
step_goes _ _ coming (month_read tokens at number is fits) = month_goes tokens at number coming is fits
step_goes _ _ coming (day_read tokens at number digits value is fits known) = day_goes tokens at number digits value coming is fits known
step_goes _ _ coming (year_due_read tokens dates at number value is before) = year_goes tokens dates at number value coming is before
step_goes _ _ coming (number_read tokens at digits value is fits) = number_goes tokens at digits value coming is
step_goes _ _ coming (slash_read tokens at digits number is fits) = slash_goes tokens at digits number coming is fits
step_goes _ _ coming (slash_day_read tokens at digits number count value is fits known) =
    slash_day_goes tokens at digits number count value coming is fits known
step_goes _ _ coming (dot_read tokens at count value is known) = dot_goes tokens at count value coming is known
step_goes _ _ coming (dot_month_read tokens at digits number count value is fits known) =
    dot_month_goes tokens at digits number count value coming is fits known
step_goes _ _ coming (dash_read tokens at count year is four) = dash_goes tokens at count year coming is four
step_goes _ _ coming (dash_month_read tokens at digits number count year is fits four) =
    dash_month_goes tokens at digits number count year coming is fits four
step_goes _ _ coming (day_due_read tokens at digits number count year is fits four) =
    day_due_goes tokens at digits number count year coming is fits four
step_goes _ _ coming (opening_read tokens at day opens) = date_goes tokens at day coming opens
step_goes _ _ coming (added_read tokens at day opens) = count_goes tokens at day coming opens
step_goes _ _ coming (counted_read tokens at day digits count opens fits) = unit_goes tokens at day digits count coming opens fits
step_goes _ _ coming (following_read tokens at day opens) = next_goes tokens at day coming opens
step_goes _ _ coming (whole_read tokens spec spelled) = tt

-- what holds of a part holds of what goes on from it
goes_on : (P Q : Read → Type 0) (first : Option Read) (onward : Read → Option Read) → IfSome first P
    → ((so_far : Read) → P so_far → IfSome (onward so_far) Q) → IfSome (option_and_then onward first) Q
goes_on P Q None onward holds more = tt
goes_on P Q (Some so_far) onward holds more = more so_far holds

-- what is read with more tokens, if they may follow
abbrev pub run : Read → List Token → Option Read
run so_far [] = Some so_far
run so_far (coming ∷ others) = option_and_then (λ more. run more others) (step so_far coming)

-- more tokens, whatever was read
pub run_goes : (tokens more : List Token) (so_far : Read) → Reads tokens so_far
    → IfSome (run so_far more) (Reads (tokens ++ more))
run_goes tokens [] so_far reads = rw append-nil reads
run_goes tokens (coming ∷ others) so_far reads =
    goes_on (Reads (tokens ++ coming ∷ [])) (Reads (tokens ++ coming ∷ others)) (step so_far coming) (λ more. run more others)
    (step_goes tokens so_far coming reads)
    (λ more holds. subst (λ (all : List Token). IfSome (run more others) (Reads all)) (append_assoc tokens (coming ∷ []) others)
    (run_goes (tokens ++ coming ∷ []) others more holds))
