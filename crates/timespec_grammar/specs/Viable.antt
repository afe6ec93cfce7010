-- Which tokens a timespec may begin with, by cases (POSIX.1-2017, XCU, at: timespec; Debian's at(1)): after a time a number
-- may be a month, a day or a year until the token after it decides. And where tokens stop that are none.
use Rattle.std.specs.Prelude.{◌≡◌, ℕ, ◌+◌, ◌<◌, ◌≤◌, ◌⊎◌, List, [], ◌∷◌, ◌++◌, length, take, IsTrue, None}
use Rattle.timespec_lexer.specs.declared.token.Token.{Token}
use Rattle.timespec_lexer.specs.declared.token.Token.TheVariants as token
use Rattle.timespec_grammar.specs.declared.clock.Clock.{Clock}
use Rattle.timespec_grammar.specs.declared.timespec.Timespec.{Timespec}
use Rattle.timespec_grammar.specs.Grammar.{IsTime, Spells}
use Rattle.timespec_grammar.specs.Numbers.{is_hour, is_month, is_month_number, is_day_number, is_year, is_date_number, is_count}

-- the first tokens of a date, and not all of them
pub data BeginsDate : List Token → Type 0 where
  month : (month : ℕ) → IsTrue (is_month month) → BeginsDate (token.Month month ∷ [])
  month_day_comma : (month digits day : ℕ) → IsTrue (is_month month) → IsTrue (is_day_number digits day)
      → BeginsDate (token.Month month ∷ token.Number digits day ∷ token.Comma ∷ [])
  number : (digits value : ℕ) → IsTrue (is_date_number digits value) → BeginsDate (token.Number digits value ∷ [])
  month_slash : (month_digits month : ℕ) → IsTrue (is_month_number month_digits month)
      → BeginsDate (token.Number month_digits month ∷ token.Slash ∷ [])
  slash_day : (month_digits month digits day : ℕ) → IsTrue (is_month_number month_digits month) →
      IsTrue (is_day_number digits day)
      → BeginsDate (token.Number month_digits month ∷ token.Slash ∷ token.Number digits day ∷ [])
  slash_day_slash : (month_digits month digits day : ℕ) → IsTrue (is_month_number month_digits month)
      → IsTrue (is_day_number digits day)
      → BeginsDate (token.Number month_digits month ∷ token.Slash ∷ token.Number digits day ∷ token.Slash ∷ [])
  day_dot : (digits day : ℕ) → IsTrue (is_day_number digits day) → BeginsDate (token.Number digits day ∷ token.Dot ∷ [])
  dot_month : (month_digits month digits day : ℕ) → IsTrue (is_month_number month_digits month) →
      IsTrue (is_day_number digits day)
      → BeginsDate (token.Number digits day ∷ token.Dot ∷ token.Number month_digits month ∷ [])
  dot_month_dot : (month_digits month digits day : ℕ) → IsTrue (is_month_number month_digits month)
      → IsTrue (is_day_number digits day)
      → BeginsDate (token.Number digits day ∷ token.Dot ∷ token.Number month_digits month ∷ token.Dot ∷ [])
  year_dash : (year_digits year : ℕ) → IsTrue (is_year year_digits year)
      → BeginsDate (token.Number year_digits year ∷ token.Dash ∷ [])
  dash_month : (month_digits month year_digits year : ℕ) → IsTrue (is_month_number month_digits month)
      → IsTrue (is_year year_digits year)
      → BeginsDate (token.Number year_digits year ∷ token.Dash ∷ token.Number month_digits month ∷ [])
  dash_month_dash : (month_digits month year_digits year : ℕ) → IsTrue (is_month_number month_digits month)
      → IsTrue (is_year year_digits year)
      → BeginsDate (token.Number year_digits year ∷ token.Dash ∷ token.Number month_digits month ∷ token.Dash ∷ [])

-- the first tokens of an increment, and not all of them
pub data BeginsIncrement : List Token → Type 0 where
  plus : BeginsIncrement (token.Plus ∷ [])
  plus_count : (digits count : ℕ) → IsTrue (is_count digits count)
      → BeginsIncrement (token.Plus ∷ token.Number digits count ∷ [])
  next : BeginsIncrement (token.Next ∷ [])

-- the tokens are the first of a timespec, or all of them
pub data IsViable : List Token → Type 0 where
  nothing : IsViable []
  in_time : (digits hour : ℕ) → IsTrue (is_hour digits hour) → IsViable (token.Number digits hour ∷ token.Colon ∷ [])
  in_date : (times dates : List Token) (at : Clock) → IsTime times at → BeginsDate dates → IsViable (times ++ dates)
  in_increment : (before later : List Token) (spec : Timespec) → Spells before spec → spec.increment ≡ None
      → BeginsIncrement later → IsViable (before ++ later)
  whole : (tokens : List Token) (spec : Timespec) → Spells tokens spec → IsViable tokens

-- some tokens after these make a timespec of them
pub record IsExtendable (tokens : List Token) : Type 0 where
  pub rest : List Token
  pub whole : Timespec
  pub spelled : Spells (tokens ++ rest) whole

-- viable tokens can go on to a timespec
abbrev pub ViableTokensGoOn : Type 0
ViableTokensGoOn = (tokens : List Token) → IsViable tokens → IsExtendable tokens

-- the first tokens of each timespec are viable
abbrev pub PrefixesAreViable : Type 0
PrefixesAreViable = (tokens rest : List Token) (whole : Timespec) → Spells (tokens ++ rest) whole → IsViable tokens

-- The first token that no timespec has there, or the number of tokens that end too early: up to it each prefix is viable, and
-- with it none is, or it is the end and the tokens spell nothing.
pub record StopsAt (tokens : List Token) (fault : ℕ) : Type 0 where
  pub prefixes : (count : ℕ) → count ≤ fault → IsViable (take count tokens)
  pub stops : ((fault < length tokens) × ¬ IsViable (take (fault + 1) tokens))
      ⊎ ((fault ≡ length tokens) × ((whole : Timespec) → ¬ Spells tokens whole))
