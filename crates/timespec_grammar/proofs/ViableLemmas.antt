-- What was read so far is a timespec or begins one, and what is viable can go on to one.
use Rattle.std.proofs.Common.{◌≡◌, ℕ, Bool, true, false, List, [], ◌∷◌, ◌++◌, refl, append_assoc, append-nil, Some, None}
use Rattle.std.specs.Prelude.{IfSome, IsTrue, ◌||◌}
use Rattle.timespec_lexer.specs.declared.token.Token.{Token}
use Rattle.timespec_lexer.specs.declared.token.Token.TheVariants as token
use Rattle.timespec_lexer.specs.declared.period.Period.TheVariants as period
use Rattle.timespec_grammar.specs.declared.clock.Clock.{Clock}
use Rattle.timespec_grammar.specs.declared.date.DatePart.{DatePart}
use Rattle.timespec_grammar.specs.declared.increment.Increment.{Increment}
use Rattle.timespec_grammar.specs.declared.timespec.Timespec.{Timespec}
use Rattle.timespec_grammar.specs.declared.read.Read.{Read}
use Rattle.timespec_grammar.specs.Grammar as grammar
use Rattle.timespec_grammar.specs.Grammar.{IsTime, IsDate, IsIncrement, Spells, timespec_of}
use Rattle.timespec_grammar.specs.Numbers.{is_day_number, is_year}
use Rattle.timespec_grammar.specs.Viable as viable
use Rattle.timespec_grammar.specs.Viable.{BeginsDate, BeginsIncrement, IsExtendable, IsViable, ViableTokensGoOn}
use Rattle.timespec_grammar.specs.inside.Steps.{timespec_read}
use Rattle.timespec_grammar.proofs.ReadLemmas.{BeforeYear, comma, slashes, dots, Opens, opens_now, opens_time, opens_date, Reads, nothing_read, hour_read, colon_read, minute_read, half_read, time_read, month_read, day_read, year_due_read, number_read, slash_read, slash_day_read, dot_read, dot_month_read, dash_read, dash_month_read, day_due_read, opening_read, added_read, counted_read, following_read, whole_read, opens_alone, opens_later}

-- what may end spells what was read
pub ends_spell : (tokens : List Token) (so_far : Read) → Reads tokens so_far → IfSome (timespec_read so_far) (Spells tokens)
ends_spell _ _ nothing_read = tt
ends_spell _ _ (hour_read digits value is) = grammar.time _ _ (grammar.clock24 _ value 0 (grammar.hour_alone digits value is))
ends_spell _ _ (colon_read digits value is) = tt
ends_spell _ _ (minute_read tokens value number is) = grammar.time tokens _ (grammar.clock24 tokens value number is)
ends_spell _ _ (half_read tokens twelve value number it is which) =
    grammar.time _ _ (grammar.clock12 tokens twelve value number it is which)
ends_spell _ _ (time_read tokens at is) = grammar.time tokens at is
ends_spell _ _ (month_read tokens at number is fits) = tt
ends_spell _ _ (day_read tokens at number digits value is fits known) =
    grammar.time_date tokens _ at _ is (grammar.month_day number digits value fits known)
ends_spell _ _ (year_due_read tokens dates at number value is before) = tt
ends_spell _ _ (number_read tokens at digits value is fits) = tt
ends_spell _ _ (slash_read tokens at digits number is fits) = tt
ends_spell _ _ (slash_day_read tokens at digits number count value is fits known) = tt
ends_spell _ _ (dot_read tokens at count value is known) = tt
ends_spell _ _ (dot_month_read tokens at digits number count value is fits known) = tt
ends_spell _ _ (dash_read tokens at count year is four) = tt
ends_spell _ _ (dash_month_read tokens at digits number count year is fits four) = tt
ends_spell _ _ (day_due_read tokens at digits number count year is fits four) = tt
ends_spell _ _ (opening_read tokens at day opens) = opens_alone tokens at day opens
ends_spell _ _ (added_read tokens at day opens) = tt
ends_spell _ _ (counted_read tokens at day digits count opens fits) = tt
ends_spell _ _ (following_read tokens at day opens) = tt
ends_spell _ _ (whole_read tokens spec spelled) = spelled

-- the prefix of a date up to its year begins a date
year_begins : (tokens dates : List Token) (at : Clock) (month day : ℕ) → IsTime tokens at → BeforeYear dates month day
    → IsViable (tokens ++ dates)
year_begins tokens _ at _ _ is (comma month digits day fits known) =
    viable.in_date tokens _ at is (viable.month_day_comma month digits day fits known)
year_begins tokens _ at _ _ is (slashes month_digits month digits day fits known) =
    viable.in_date tokens _ at is (viable.slash_day_slash month_digits month digits day fits known)
year_begins tokens _ at _ _ is (dots month_digits month digits day fits known) =
    viable.in_date tokens _ at is (viable.dot_month_dot month_digits month digits day fits known)

-- what was read is viable
pub reads_viable : (tokens : List Token) (so_far : Read) → Reads tokens so_far → IsViable tokens
reads_viable _ _ nothing_read = viable.nothing
reads_viable _ _ (hour_read digits value is) =
    viable.whole _ _ (grammar.time _ _ (grammar.clock24 _ value 0 (grammar.hour_alone digits value is)))
reads_viable _ _ (colon_read digits value is) = viable.in_time digits value is
reads_viable _ _ (minute_read tokens value number is) = viable.whole _ _ (grammar.time tokens _ (grammar.clock24 tokens value number is))
reads_viable _ _ (half_read tokens twelve value number it is which) =
    viable.whole _ _ (grammar.time _ _ (grammar.clock12 tokens twelve value number it is which))
reads_viable _ _ (time_read tokens at is) = viable.whole _ _ (grammar.time tokens at is)
reads_viable _ _ (month_read tokens at number is fits) = viable.in_date tokens _ at is (viable.month number fits)
reads_viable _ _ (day_read tokens at number digits value is fits known) =
    viable.whole _ _ (grammar.time_date tokens _ at _ is (grammar.month_day number digits value fits known))
reads_viable _ _ (year_due_read tokens dates at number value is before) = year_begins tokens dates at number value is before
reads_viable _ _ (number_read tokens at digits value is fits) = viable.in_date tokens _ at is (viable.number digits value fits)
reads_viable _ _ (slash_read tokens at digits number is fits) = viable.in_date tokens _ at is (viable.month_slash digits number fits)
reads_viable _ _ (slash_day_read tokens at digits number count value is fits known) =
    viable.in_date tokens _ at is (viable.slash_day digits number count value fits known)
reads_viable _ _ (dot_read tokens at count value is known) = viable.in_date tokens _ at is (viable.day_dot count value known)
reads_viable _ _ (dot_month_read tokens at digits number count value is fits known) =
    viable.in_date tokens _ at is (viable.dot_month digits number count value fits known)
reads_viable _ _ (dash_read tokens at count year is four) = viable.in_date tokens _ at is (viable.year_dash count year four)
reads_viable _ _ (dash_month_read tokens at digits number count year is fits four) =
    viable.in_date tokens _ at is (viable.dash_month digits number count year fits four)
reads_viable _ _ (day_due_read tokens at digits number count year is fits four) =
    viable.in_date tokens _ at is (viable.dash_month_dash digits number count year fits four)
reads_viable _ _ (opening_read tokens at day opens) = viable.whole _ _ (opens_alone tokens at day opens)
reads_viable _ _ (added_read tokens at day opens) =
    viable.in_increment tokens _ _ (opens_alone tokens at day opens) refl viable.plus
reads_viable _ _ (counted_read tokens at day digits count opens fits) =
    viable.in_increment tokens _ _ (opens_alone tokens at day opens) refl (viable.plus_count digits count fits)
reads_viable _ _ (following_read tokens at day opens) =
    viable.in_increment tokens _ _ (opens_alone tokens at day opens) refl viable.next
reads_viable _ _ (whole_read tokens spec spelled) = viable.whole tokens spec spelled

-- a time and a date of two parts, of which the second is to come
dated : (times first rest : List Token) (at : Clock) (day : DatePart) → IsTime times at → IsDate (first ++ rest) day
    → IsExtendable (times ++ first)
dated times first rest at day is that = record {
  rest = rest;
  whole = timespec_of at day None;
  spelled = rw append_assoc (grammar.time_date times (first ++ rest) at day is that);
}

-- a number that begins a date goes on as a day or as a year
number_goes_on : (times : List Token) (at : Clock) (digits value : ℕ) (test : Bool) → IsTime times at → is_day_number digits value ≡ test
    → IsTrue (test || is_year digits value) → IsExtendable (times ++ token.Number digits value ∷ [])
number_goes_on times at digits value true is known fits =
    dated times (token.Number digits value ∷ []) (token.Dot ∷ token.Number 1 1 ∷ token.Dot ∷ token.Number 4 2000 ∷ []) at _ is
    (grammar.dots 1 1 digits value 4 2000 refl known refl)
number_goes_on times at digits value false is known four =
    dated times (token.Number digits value ∷ []) (token.Dash ∷ token.Number 1 1 ∷ token.Dash ∷ token.Number 1 1 ∷ []) at _ is
    (grammar.dashes 1 1 1 1 digits value refl refl four)

date_goes_on : (times dates : List Token) (at : Clock) → IsTime times at → BeginsDate dates → IsExtendable (times ++ dates)
date_goes_on times _ at is (viable.month number fits) =
    dated times (token.Month number ∷ []) (token.Number 1 1 ∷ []) at _ is (grammar.month_day number 1 1 fits refl)
date_goes_on times _ at is (viable.month_day_comma number digits day fits known) =
    dated times (token.Month number ∷ token.Number digits day ∷ token.Comma ∷ []) (token.Number 4 2000 ∷ []) at _ is
    (grammar.month_day_year number digits day 4 2000 fits known refl)
date_goes_on times _ at is (viable.number digits value fits) =
    number_goes_on times at digits value (is_day_number digits value) is refl fits
date_goes_on times _ at is (viable.month_slash digits number fits) =
    dated times (token.Number digits number ∷ token.Slash ∷ []) (token.Number 1 1 ∷ token.Slash ∷ token.Number 4 2000 ∷ []) at _ is
    (grammar.slashes digits number 1 1 4 2000 fits refl refl)
date_goes_on times _ at is (viable.slash_day digits number count value fits known) =
    dated times (token.Number digits number ∷ token.Slash ∷ token.Number count value ∷ []) (token.Slash ∷ token.Number 4 2000 ∷ []) at _ is
    (grammar.slashes digits number count value 4 2000 fits known refl)
date_goes_on times _ at is (viable.slash_day_slash digits number count value fits known) =
    dated times (token.Number digits number ∷ token.Slash ∷ token.Number count value ∷ token.Slash ∷ []) (token.Number 4 2000 ∷ []) at _ is
    (grammar.slashes digits number count value 4 2000 fits known refl)
date_goes_on times _ at is (viable.day_dot count value known) =
    dated times (token.Number count value ∷ token.Dot ∷ []) (token.Number 1 1 ∷ token.Dot ∷ token.Number 4 2000 ∷ []) at _ is
    (grammar.dots 1 1 count value 4 2000 refl known refl)
date_goes_on times _ at is (viable.dot_month digits number count value fits known) =
    dated times (token.Number count value ∷ token.Dot ∷ token.Number digits number ∷ []) (token.Dot ∷ token.Number 4 2000 ∷ []) at _ is
    (grammar.dots digits number count value 4 2000 fits known refl)
date_goes_on times _ at is (viable.dot_month_dot digits number count value fits known) =
    dated times (token.Number count value ∷ token.Dot ∷ token.Number digits number ∷ token.Dot ∷ []) (token.Number 4 2000 ∷ []) at _ is
    (grammar.dots digits number count value 4 2000 fits known refl)
date_goes_on times _ at is (viable.year_dash count year four) =
    dated times (token.Number count year ∷ token.Dash ∷ []) (token.Number 1 1 ∷ token.Dash ∷ token.Number 1 1 ∷ []) at _ is
    (grammar.dashes 1 1 1 1 count year refl refl four)
date_goes_on times _ at is (viable.dash_month digits number count year fits four) =
    dated times (token.Number count year ∷ token.Dash ∷ token.Number digits number ∷ []) (token.Dash ∷ token.Number 1 1 ∷ []) at _ is
    (grammar.dashes digits number 1 1 count year fits refl four)
date_goes_on times _ at is (viable.dash_month_dash digits number count year fits four) =
    dated times (token.Number count year ∷ token.Dash ∷ token.Number digits number ∷ token.Dash ∷ []) (token.Number 1 1 ∷ []) at _ is
    (grammar.dashes digits number 1 1 count year fits refl four)

-- a timespec without an increment may come before one
opens : (tokens : List Token) (spec : Timespec) → Spells tokens spec → spec.increment ≡ None → Opens tokens spec.clock spec.date
opens _ _ (grammar.time times at is) none = opens_time times at is
opens _ _ (grammar.time_date times dates at day is that) none = opens_date times dates at day is that
opens _ _ (grammar.time_increment times later at by is onward) none = absurd (cc)
opens _ _ (grammar.time_date_increment times dates later at day by is that onward) none = absurd (cc)
opens _ _ grammar.now none = opens_now
opens _ _ (grammar.now_increment later by onward) none = absurd (cc)

-- the same, and an increment of two parts, of which the second is to come
added : (before first rest : List Token) (spec : Timespec) (by : Increment) → Spells before spec → spec.increment ≡ None
    → IsIncrement (first ++ rest) by → IsExtendable (before ++ first)
added before first rest spec by spelled none more = record {
  rest = rest;
  whole = timespec_of spec.clock spec.date (Some by);
  spelled = rw append_assoc (opens_later before (first ++ rest) spec.clock spec.date by (opens before spec spelled none) more);
}

increment_goes_on : (before later : List Token) (spec : Timespec) → Spells before spec → spec.increment ≡ None
    → BeginsIncrement later → IsExtendable (before ++ later)
increment_goes_on before _ spec spelled none viable.plus =
    added before (token.Plus ∷ []) (token.Number 1 1 ∷ token.Unit period.Day ∷ []) spec _ spelled none (grammar.plus 1 1 period.Day refl)
increment_goes_on before _ spec spelled none (viable.plus_count digits count fits) =
    added before (token.Plus ∷ token.Number digits count ∷ []) (token.Unit period.Day ∷ []) spec _ spelled none
    (grammar.plus digits count period.Day fits)
increment_goes_on before _ spec spelled none viable.next =
    added before (token.Next ∷ []) (token.Unit period.Day ∷ []) spec _ spelled none (grammar.next period.Day)

-- what is viable can go on to a timespec
pub viable_goes_on : ViableTokensGoOn
viable_goes_on _ viable.nothing = record { rest = token.Noon ∷ []; whole = _; spelled = grammar.time _ _ grammar.noon }
viable_goes_on _ (viable.in_time digits hour fits) = record {
  rest = token.Number 1 0 ∷ [];
  whole = _;
  spelled = grammar.time _ _ (grammar.clock24 _ hour 0 (grammar.hour_colon digits hour 1 0 fits refl));
}
viable_goes_on _ (viable.in_date times dates at is begins) = date_goes_on times dates at is begins
viable_goes_on _ (viable.in_increment before later spec spelled none begins) =
    increment_goes_on before later spec spelled none begins
viable_goes_on _ (viable.whole tokens spec spelled) = record { rest = []; whole = spec; spelled = rw append-nil spelled }
