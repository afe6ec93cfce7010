-- Each spelling is read as its timespec.
use Rattle.std.proofs.Common.{◌≡◌, ℕ, ◌+◌, ◌/◌, ◌%◌, Bool, true, false, List, [], ◌∷◌, ◌++◌, refl, ◌∙◌, subst, append_assoc, append-nil, arith, Option, Some, None}
use Rattle.std.specs.Prelude.{IsTrue, option_and_then, if◌then◌else◌}
use Rattle.std.proofs.lemmas.Bool.Decides.{nat_tests}
use Rattle.timespec_lexer.specs.declared.token.Token.{Token}
use Rattle.timespec_lexer.specs.declared.token.Token.TheVariants as token
use Rattle.timespec_grammar.specs.declared.clock.Clock.{Clock}
use Rattle.timespec_grammar.specs.declared.clock.Clock.TheVariants as clock
use Rattle.timespec_grammar.specs.declared.date.DatePart.{DatePart}
use Rattle.timespec_grammar.specs.declared.date.DatePart.TheVariants as date
use Rattle.timespec_grammar.specs.declared.increment.Increment.{Increment}
use Rattle.timespec_grammar.specs.declared.timespec.Timespec.{Timespec}
use Rattle.timespec_grammar.specs.declared.read.Read.{Read}
use Rattle.timespec_grammar.specs.declared.read.Read.TheVariants as read
use Rattle.timespec_grammar.specs.Grammar as grammar
use Rattle.timespec_grammar.specs.Grammar.{IsClock24, IsClock12, IsHalf, IsTime, IsDate, IsIncrement, Spells, timespec_of}
use Rattle.timespec_grammar.specs.Numbers.{is_hour, is_hour_minute, is_twelve, is_minute, is_month, is_month_number, is_weekday_number, is_day_number, is_year, is_date_number, is_count}
use Rattle.timespec_grammar.specs.inside.Steps.{timespec_read}
use Rattle.timespec_grammar.proofs.ReadLemmas.{run}

-- the timespec that more tokens give
abbrev pub accepts : Read → List Token → Option Timespec
accepts so_far tokens = option_and_then timespec_read (run so_far tokens)

-- the same, where something may have been read
abbrev accepts_from : Option Read → List Token → Option Timespec
accepts_from so_far tokens = option_and_then timespec_read (option_and_then (λ more. run more tokens) so_far)

-- a test that holds
when : (test : Bool) (onward : Read) (other : Option Read) (tokens : List Token) → test ≡ true
    → accepts_from (if test then Some onward else other) tokens ≡ accepts onward tokens
when true onward other tokens holds = refl
when false onward other tokens holds = cc

-- a test that doesn't
unless : (test : Bool) (onward : Read) (other : Option Read) (tokens : List Token) → test ≡ false
    → accepts_from (if test then Some onward else other) tokens ≡ accepts_from other tokens
unless true onward other tokens fails = cc
unless false onward other tokens fails = refl

-- an increment, after all that may come before one
increment_accepted : (at : Clock) (day : DatePart) (later : List Token) (by : Increment) → IsIncrement later by
    → accepts (read.Dated at day) later ≡ Some (timespec_of at day (Some by))
increment_accepted at day _ _ (grammar.plus digits count period fits) =
    when (is_count digits count) (read.Counted at day count) None (token.Unit period ∷ []) fits
increment_accepted at day _ _ (grammar.next period) = refl

-- an increment or nothing
data IsEnd : List Token → Option Increment → Type 0 where
  alone : IsEnd [] None
  later : (tokens : List Token) (by : Increment) → IsIncrement tokens by → IsEnd tokens (Some by)

end_accepted : (at : Clock) (day : DatePart) (tokens : List Token) (by : Option Increment) → IsEnd tokens by
    → accepts (read.Dated at day) tokens ≡ Some (timespec_of at day by)
end_accepted at day _ _ alone = refl
end_accepted at day _ _ (later tokens by is) = increment_accepted at day tokens by is

-- after a month and a day as after a date
day_ends : (at : Clock) (month day : ℕ) (tokens : List Token) (by : Option Increment) → IsEnd tokens by
    → accepts (read.DayNamed at month day) tokens ≡ accepts (read.Dated at (date.MonthDay month day None)) tokens
day_ends at month day _ _ alone = refl
day_ends at month day _ _ (later _ _ (grammar.plus digits count period fits)) = refl
day_ends at month day _ _ (later _ _ (grammar.next period)) = refl

-- after a time as after an absent date
time_ends : (at : Clock) (tokens : List Token) (by : Option Increment) → IsEnd tokens by
    → accepts (read.Timed at) tokens ≡ accepts (read.Dated at date.Absent) tokens
time_ends at _ _ alone = refl
time_ends at _ _ (later _ _ (grammar.plus digits count period fits)) = refl
time_ends at _ _ (later _ _ (grammar.next period)) = refl

-- what a number that begins a date may be
day_begins : (digits value : ℕ) → is_day_number digits value ≡ true → is_date_number digits value ≡ true
day_begins digits value known = grind (arith, nat_tests)

month_begins : (digits value : ℕ) → is_month_number digits value ≡ true → is_date_number digits value ≡ true
month_begins digits value fits = grind (arith, nat_tests)

year_begins : (digits value : ℕ) → is_year digits value ≡ true → is_date_number digits value ≡ true
year_begins digits value four = grind (arith, nat_tests)

-- a date and its end, after a time
date_accepted : (at : Clock) (dates rest : List Token) (day : DatePart) (by : Option Increment) → IsDate dates day
    → IsEnd rest by → accepts (read.Timed at) (dates ++ rest) ≡ Some (timespec_of at day by)
date_accepted at _ rest _ by (grammar.month_day month digits value fits known) end =
    when (is_month month) (read.MonthNamed at month) None (token.Number digits value ∷ rest) fits
    ∙ when (is_day_number digits value) (read.DayNamed at month value) None rest known
    ∙ day_ends at month value rest by end
    ∙ end_accepted at (date.MonthDay month value None) rest by end
date_accepted at _ rest _ by (grammar.month_day_year month digits value year_digits year fits known four) end =
    when (is_month month) (read.MonthNamed at month) None
    (token.Number digits value ∷ token.Comma ∷ token.Number year_digits year ∷ rest) fits
    ∙ when (is_day_number digits value) (read.DayNamed at month value) None
    (token.Comma ∷ token.Number year_digits year ∷ rest) known
    ∙ when (is_year year_digits year) (read.Dated at (date.MonthDay month value (Some year))) None rest four
    ∙ end_accepted at (date.MonthDay month value (Some year)) rest by end
date_accepted at _ rest _ by (grammar.slashes month_digits month digits value year_digits year fits known four) end =
    when (is_date_number month_digits month) (read.DateNumber at month_digits month) None
    (token.Slash ∷ token.Number digits value ∷ token.Slash ∷ token.Number year_digits year ∷ rest) (month_begins month_digits month fits)
    ∙ when (is_month_number month_digits month) (read.MonthSlash at month) None
    (token.Number digits value ∷ token.Slash ∷ token.Number year_digits year ∷ rest) fits
    ∙ when (is_day_number digits value) (read.SlashDay at month value) None (token.Slash ∷ token.Number year_digits year ∷ rest) known
    ∙ when (is_year year_digits year) (read.Dated at (date.MonthDay month value (Some year))) None rest four
    ∙ end_accepted at (date.MonthDay month value (Some year)) rest by end
date_accepted at _ rest _ by (grammar.dots month_digits month digits value year_digits year fits known four) end =
    when (is_date_number digits value) (read.DateNumber at digits value) None
    (token.Dot ∷ token.Number month_digits month ∷ token.Dot ∷ token.Number year_digits year ∷ rest) (day_begins digits value known)
    ∙ when (is_day_number digits value) (read.DayDot at value) None
    (token.Number month_digits month ∷ token.Dot ∷ token.Number year_digits year ∷ rest) known
    ∙ when (is_month_number month_digits month) (read.DotMonth at month value) None
    (token.Dot ∷ token.Number year_digits year ∷ rest) fits
    ∙ when (is_year year_digits year) (read.Dated at (date.MonthDay month value (Some year))) None rest four
    ∙ end_accepted at (date.MonthDay month value (Some year)) rest by end
date_accepted at _ rest _ by (grammar.dashes month_digits month digits value year_digits year fits known four) end =
    when (is_date_number year_digits year) (read.DateNumber at year_digits year) None
    (token.Dash ∷ token.Number month_digits month ∷ token.Dash ∷ token.Number digits value ∷ rest) (year_begins year_digits year four)
    ∙ when (is_year year_digits year) (read.YearDash at year) None
    (token.Number month_digits month ∷ token.Dash ∷ token.Number digits value ∷ rest) four
    ∙ when (is_month_number month_digits month) (read.DashMonth at month year) None
    (token.Dash ∷ token.Number digits value ∷ rest) fits
    ∙ when (is_day_number digits value) (read.Dated at (date.MonthDay month value (Some year))) None rest known
    ∙ end_accepted at (date.MonthDay month value (Some year)) rest by end
date_accepted at _ rest _ by (grammar.weekday value fits) end =
    when (is_weekday_number value) (read.Dated at (date.Weekday value)) None rest fits
    ∙ end_accepted at (date.Weekday value) rest by end
date_accepted at _ rest _ by grammar.today end = end_accepted at date.Today rest by end
date_accepted at _ rest _ by grammar.tomorrow end = end_accepted at date.Tomorrow rest by end

-- what is after a time
data IsTail : List Token → DatePart → Option Increment → Type 0 where
  undated : (rest : List Token) (by : Option Increment) → IsEnd rest by → IsTail rest date.Absent by
  dated : (dates rest : List Token) (day : DatePart) (by : Option Increment) → IsDate dates day → IsEnd rest by
      → IsTail (dates ++ rest) day by

tail_accepted : (at : Clock) (tail : List Token) (day : DatePart) (by : Option Increment) → IsTail tail day by
    → accepts (read.Timed at) tail ≡ Some (timespec_of at day by)
tail_accepted at _ _ _ (undated rest by end) = time_ends at rest by end ∙ end_accepted at date.Absent rest by end
tail_accepted at _ _ _ (dated dates rest day by is end) = date_accepted at dates rest day by is end

-- an hour, or an hour and a minute, was read
data IsClockRead : Read → ℕ → ℕ → Type 0 where
  hour_alone : (hour : ℕ) → IsClockRead (read.Hour hour) hour 0
  with_minute : (hour minute : ℕ) → IsClockRead (read.HourMinute hour minute) hour minute

-- such a read goes on as the whole time, with a date or an end
clock_tail : (so_far : Read) (hour minute : ℕ) (tail : List Token) (day : DatePart) (by : Option Increment)
    → IsClockRead so_far hour minute → IsTail tail day by
    → accepts so_far tail ≡ accepts (read.Timed (clock.At hour minute false)) tail
clock_tail _ _ _ _ _ _ (hour_alone hour) (undated _ _ alone) = refl
clock_tail _ _ _ _ _ _ (hour_alone hour) (undated _ _ (later _ _ (grammar.plus digits count period fits))) = refl
clock_tail _ _ _ _ _ _ (hour_alone hour) (undated _ _ (later _ _ (grammar.next period))) = refl
clock_tail _ _ _ _ _ _ (hour_alone hour) (dated _ _ _ _ (grammar.month_day _ _ _ _ _) end) = refl
clock_tail _ _ _ _ _ _ (hour_alone hour) (dated _ _ _ _ (grammar.month_day_year _ _ _ _ _ _ _ _) end) = refl
clock_tail _ _ _ _ _ _ (hour_alone hour) (dated _ _ _ _ (grammar.slashes _ _ _ _ _ _ _ _ _) end) = refl
clock_tail _ _ _ _ _ _ (hour_alone hour) (dated _ _ _ _ (grammar.dots _ _ _ _ _ _ _ _ _) end) = refl
clock_tail _ _ _ _ _ _ (hour_alone hour) (dated _ _ _ _ (grammar.dashes _ _ _ _ _ _ _ _ _) end) = refl
clock_tail _ _ _ _ _ _ (hour_alone hour) (dated _ _ _ _ (grammar.weekday _ _) end) = refl
clock_tail _ _ _ _ _ _ (hour_alone hour) (dated _ _ _ _ grammar.today end) = refl
clock_tail _ _ _ _ _ _ (hour_alone hour) (dated _ _ _ _ grammar.tomorrow end) = refl
clock_tail _ _ _ _ _ _ (with_minute hour minute) (undated _ _ alone) = refl
clock_tail _ _ _ _ _ _ (with_minute hour minute) (undated _ _ (later _ _ (grammar.plus digits count period fits))) = refl
clock_tail _ _ _ _ _ _ (with_minute hour minute) (undated _ _ (later _ _ (grammar.next period))) = refl
clock_tail _ _ _ _ _ _ (with_minute hour minute) (dated _ _ _ _ (grammar.month_day _ _ _ _ _) end) = refl
clock_tail _ _ _ _ _ _ (with_minute hour minute) (dated _ _ _ _ (grammar.month_day_year _ _ _ _ _ _ _ _) end) = refl
clock_tail _ _ _ _ _ _ (with_minute hour minute) (dated _ _ _ _ (grammar.slashes _ _ _ _ _ _ _ _ _) end) = refl
clock_tail _ _ _ _ _ _ (with_minute hour minute) (dated _ _ _ _ (grammar.dots _ _ _ _ _ _ _ _ _) end) = refl
clock_tail _ _ _ _ _ _ (with_minute hour minute) (dated _ _ _ _ (grammar.dashes _ _ _ _ _ _ _ _ _) end) = refl
clock_tail _ _ _ _ _ _ (with_minute hour minute) (dated _ _ _ _ (grammar.weekday _ _) end) = refl
clock_tail _ _ _ _ _ _ (with_minute hour minute) (dated _ _ _ _ grammar.today end) = refl
clock_tail _ _ _ _ _ _ (with_minute hour minute) (dated _ _ _ _ grammar.tomorrow end) = refl

-- a 12-hour clock with its half goes on as the whole time
half_tail : (hour minute : ℕ) (tail : List Token) (day : DatePart) (by : Option Increment) → IsTail tail day by
    → accepts (read.Half hour minute) tail ≡ accepts (read.Timed (clock.At hour minute false)) tail
half_tail hour minute _ _ _ (undated _ _ alone) = refl
half_tail hour minute _ _ _ (undated _ _ (later _ _ (grammar.plus digits count period fits))) = refl
half_tail hour minute _ _ _ (undated _ _ (later _ _ (grammar.next period))) = refl
half_tail hour minute _ _ _ (dated _ _ _ _ (grammar.month_day _ _ _ _ _) end) = refl
half_tail hour minute _ _ _ (dated _ _ _ _ (grammar.month_day_year _ _ _ _ _ _ _ _) end) = refl
half_tail hour minute _ _ _ (dated _ _ _ _ (grammar.slashes _ _ _ _ _ _ _ _ _) end) = refl
half_tail hour minute _ _ _ (dated _ _ _ _ (grammar.dots _ _ _ _ _ _ _ _ _) end) = refl
half_tail hour minute _ _ _ (dated _ _ _ _ (grammar.dashes _ _ _ _ _ _ _ _ _) end) = refl
half_tail hour minute _ _ _ (dated _ _ _ _ (grammar.weekday _ _) end) = refl
half_tail hour minute _ _ _ (dated _ _ _ _ grammar.today end) = refl
half_tail hour minute _ _ _ (dated _ _ _ _ grammar.tomorrow end) = refl

-- with the zone
clock_zoned : (so_far : Read) (hour minute : ℕ) (rest : List Token) → IsClockRead so_far hour minute
    → accepts so_far (token.Utc ∷ rest) ≡ accepts (read.Timed (clock.At hour minute true)) rest
clock_zoned _ _ _ rest (hour_alone hour) = refl
clock_zoned _ _ _ rest (with_minute hour minute) = refl

-- with a half of the day
clock_halved : (so_far : Read) (twelve hour minute : ℕ) (half : Token) (rest : List Token)
    → IsClockRead so_far twelve minute → IsTrue (is_twelve twelve) → IsHalf half twelve hour
    → accepts so_far (half ∷ rest) ≡ accepts (read.Half hour minute) rest
clock_halved _ _ _ _ _ rest (hour_alone twelve) fits (grammar.am _) =
    when (is_twelve twelve) (read.Half (twelve % 12) 0) None rest fits
clock_halved _ _ _ _ _ rest (hour_alone twelve) fits (grammar.pm _) =
    when (is_twelve twelve) (read.Half (twelve % 12 + 12) 0) None rest fits
clock_halved _ _ _ _ _ rest (with_minute twelve minute) fits (grammar.am _) =
    when (is_twelve twelve) (read.Half (twelve % 12) minute) None rest fits
clock_halved _ _ _ _ _ rest (with_minute twelve minute) fits (grammar.pm _) =
    when (is_twelve twelve) (read.Half (twelve % 12 + 12) minute) None rest fits

-- four digits are no hour alone
four_no_hour : (digits value : ℕ) → is_hour_minute digits value ≡ true → is_hour digits value ≡ false
four_no_hour digits value four = grind (arith, nat_tests)

-- an hour and a minute are read as such
record ReadsClock (tokens : List Token) (hour minute : ℕ) : Type 0 where
  so_far : Read
  is : IsClockRead so_far hour minute
  goes : (rest : List Token) → accepts read.Nothing (tokens ++ rest) ≡ accepts so_far rest

clock_read : (tokens : List Token) (hour minute : ℕ) → IsClock24 tokens hour minute → ReadsClock tokens hour minute
clock_read _ _ _ (grammar.hour_alone digits value fits) = record {
  so_far = read.Hour value;
  is = hour_alone value;
  goes = λ rest. when (is_hour digits value) (read.Hour value) _ rest fits;
}
clock_read _ _ _ (grammar.hour_minute digits value fits) = record {
  so_far = read.HourMinute (value / 100) (value % 100);
  is = with_minute (value / 100) (value % 100);
  goes = λ rest.
      unless (is_hour digits value) (read.Hour value) _ rest (four_no_hour digits value fits)
      ∙ when (is_hour_minute digits value) (read.HourMinute (value / 100) (value % 100)) None rest fits;
}
clock_read _ _ _ (grammar.hour_colon digits value count number fits small) = record {
  so_far = read.HourMinute value number;
  is = with_minute value number;
  goes = λ rest.
      when (is_hour digits value) (read.Hour value) _ (token.Colon ∷ token.Number count number ∷ rest) fits
      ∙ when (is_minute count number) (read.HourMinute value number) None rest small;
}

-- a time and what is after it
time_accepted : (times tail : List Token) (at : Clock) (day : DatePart) (by : Option Increment) → IsTime times at
    → IsTail tail day by → accepts read.Nothing (times ++ tail) ≡ Some (timespec_of at day by)
time_accepted _ tail _ day by (grammar.clock24 tokens hour minute is) ends =
    let reads : ReadsClock tokens hour minute = clock_read tokens hour minute is in
    reads.goes tail ∙ clock_tail reads.so_far hour minute tail day by reads.is ends
    ∙ tail_accepted (clock.At hour minute false) tail day by ends
time_accepted _ tail _ day by (grammar.clock24_utc tokens hour minute is) ends =
    let reads : ReadsClock tokens hour minute = clock_read tokens hour minute is in
    rw append_assoc (reads.goes (token.Utc ∷ tail) ∙ clock_zoned reads.so_far hour minute tail reads.is
    ∙ tail_accepted (clock.At hour minute true) tail day by ends)
time_accepted _ tail _ day by (grammar.clock12 tokens twelve hour minute half is which) ends =
    let reads : ReadsClock tokens twelve minute = clock_read tokens twelve minute is.same in
    rw append_assoc (reads.goes (half ∷ tail)
    ∙ clock_halved reads.so_far twelve hour minute half tail reads.is is.twelve which
    ∙ half_tail hour minute tail day by ends
    ∙ tail_accepted (clock.At hour minute false) tail day by ends)
time_accepted _ tail _ day by (grammar.clock12_utc tokens twelve hour minute half is which) ends =
    let reads : ReadsClock tokens twelve minute = clock_read tokens twelve minute is.same in
    rw append_assoc (reads.goes (half ∷ token.Utc ∷ tail)
    ∙ clock_halved reads.so_far twelve hour minute half (token.Utc ∷ tail) reads.is is.twelve which
    ∙ tail_accepted (clock.At hour minute true) tail day by ends)
time_accepted _ tail _ day by grammar.noon ends = tail_accepted (clock.At 12 0 false) tail day by ends
time_accepted _ tail _ day by grammar.midnight ends = tail_accepted (clock.At 0 0 false) tail day by ends
time_accepted _ tail _ day by grammar.teatime ends = tail_accepted (clock.At 16 0 false) tail day by ends

-- each spelling is accepted as its timespec
pub spells_accepted : (tokens : List Token) (spec : Timespec) → Spells tokens spec
    → accepts read.Nothing tokens ≡ Some spec
spells_accepted _ _ (grammar.time times at is) =
    subst (λ (tokens : List Token). accepts read.Nothing tokens ≡ Some (timespec_of at date.Absent None)) (append-nil times)
    (time_accepted times [] at date.Absent None is (undated [] None alone))
spells_accepted _ _ (grammar.time_date times dates at day is that) =
    subst (λ (tail : List Token). accepts read.Nothing (times ++ tail) ≡ Some (timespec_of at day None)) (append-nil dates)
    (time_accepted times (dates ++ []) at day None is (dated dates [] day None that alone))
spells_accepted _ _ (grammar.time_increment times more at by is onward) =
    time_accepted times more at date.Absent (Some by) is (undated more (Some by) (later more by onward))
spells_accepted _ _ (grammar.time_date_increment times dates more at day by is that onward) =
    rw append_assoc (time_accepted times (dates ++ more) at day (Some by) is (dated dates more day (Some by) that (later more by onward)))
spells_accepted _ _ grammar.now = refl
spells_accepted _ _ (grammar.now_increment more by onward) = increment_accepted clock.Now date.Absent more by onward
