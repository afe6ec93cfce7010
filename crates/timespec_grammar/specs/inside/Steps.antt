-- What the parser takes its tokens for, one after another, with what was read so far.
use Rattle.std.specs.Prelude.{ℕ, ◌+◌, ◌/◌, ◌%◌, true, false, Option, Some, None, if◌then◌else◌}
use Rattle.timespec_lexer.specs.declared.token.Token.{Token}
use Rattle.timespec_lexer.specs.declared.token.Token.TheVariants as token
use Rattle.timespec_grammar.specs.declared.clock.Clock.{Clock}
use Rattle.timespec_grammar.specs.declared.clock.Clock.TheVariants as clock
use Rattle.timespec_grammar.specs.declared.date.DatePart.{DatePart}
use Rattle.timespec_grammar.specs.declared.date.DatePart.TheVariants as date
use Rattle.timespec_grammar.specs.declared.timespec.Timespec.{Timespec}
use Rattle.timespec_grammar.specs.declared.read.Read.{Read}
use Rattle.timespec_grammar.specs.declared.read.Read.TheVariants as read
use Rattle.timespec_grammar.specs.Grammar.{timespec_of}
use Rattle.timespec_grammar.specs.Numbers.{is_hour, is_hour_minute, is_twelve, is_minute, is_month, is_month_number, is_weekday_number, is_day_number, is_year, is_date_number, is_count}

-- the first token
abbrev pub begin : Token → Option Read
begin (token.Number digits value) =
    if is_hour digits value then Some (read.Hour value)
    else (if is_hour_minute digits value then Some (read.HourMinute (value / 100) (value % 100))
    else None)
begin token.Now = Some (read.Dated clock.Now date.Absent)
begin token.Noon = Some (read.Timed (clock.At 12 0 false))
begin token.Midnight = Some (read.Timed (clock.At 0 0 false))
begin token.Teatime = Some (read.Timed (clock.At 16 0 false))
begin _ = None

-- the minute after an hour and a colon
abbrev pub after_colon : ℕ → Token → Option Read
after_colon hour (token.Number digits value) =
    if is_minute digits value then Some (read.HourMinute hour value) else None
after_colon hour _ = None

-- what follows all that may come before an increment
abbrev pub after_date : Clock → DatePart → Token → Option Read
after_date at day token.Plus = Some (read.Added at day)
after_date at day token.Next = Some (read.Following at day)
after_date at day _ = None

-- what follows a whole time: a date, or what follows a date
abbrev pub after_time : Clock → Token → Option Read
after_time at (token.Month month) = if is_month month then Some (read.MonthNamed at month) else None
after_time at (token.Weekday day) = if is_weekday_number day then Some (read.Dated at (date.Weekday day)) else None
after_time at (token.Number digits value) = if is_date_number digits value then Some (read.DateNumber at digits value) else None
after_time at token.Today = Some (read.Dated at date.Today)
after_time at token.Tomorrow = Some (read.Dated at date.Tomorrow)
after_time at other = after_date at date.Absent other

-- what follows a time without its zone: the zone, or what follows a whole time
abbrev pub after_half : ℕ → ℕ → Token → Option Read
after_half hour minute token.Utc = Some (read.Timed (clock.At hour minute true))
after_half hour minute other = after_time (clock.At hour minute false) other

-- what follows an hour and a minute: a half of the day, or what follows a time without its zone
abbrev pub after_minute : ℕ → ℕ → Token → Option Read
after_minute hour minute token.Am = if is_twelve hour then Some (read.Half (hour % 12) minute) else None
after_minute hour minute token.Pm = if is_twelve hour then Some (read.Half (hour % 12 + 12) minute) else None
after_minute hour minute other = after_half hour minute other

-- what follows an hour in one number: a colon, or what follows an hour and a minute
abbrev pub after_hour : ℕ → Token → Option Read
after_hour hour token.Colon = Some (read.HourColon hour)
after_hour hour other = after_minute hour 0 other

-- the day after a month
abbrev pub after_month : Clock → ℕ → Token → Option Read
after_month at month (token.Number digits value) =
    if is_day_number digits value then Some (read.DayNamed at month value) else None
after_month at month _ = None

-- what follows a month and a day: a comma, or what follows a date
abbrev pub after_day : Clock → ℕ → ℕ → Token → Option Read
after_day at month day token.Comma = Some (read.YearDue at month day)
after_day at month day other = after_date at (date.MonthDay month day None) other

-- the year after a month and a day
abbrev pub year_due : Clock → ℕ → ℕ → Token → Option Read
year_due at month day (token.Number digits value) =
    if is_year digits value then Some (read.Dated at (date.MonthDay month day (Some value))) else None
year_due at month day _ = None

-- the mark after a number that begins a date: it says whether that was a month, a day or a year
abbrev pub after_number : Clock → ℕ → ℕ → Token → Option Read
after_number at digits value token.Slash = if is_month_number digits value then Some (read.MonthSlash at value) else None
after_number at digits value token.Dot = if is_day_number digits value then Some (read.DayDot at value) else None
after_number at digits value token.Dash = if is_year digits value then Some (read.YearDash at value) else None
after_number at digits value _ = None

-- the day after a month and a slash
abbrev pub after_slash : Clock → ℕ → Token → Option Read
after_slash at month (token.Number digits value) =
    if is_day_number digits value then Some (read.SlashDay at month value) else None
after_slash at month _ = None

-- the second slash
abbrev pub second_slash : Clock → ℕ → ℕ → Token → Option Read
second_slash at month day token.Slash = Some (read.YearDue at month day)
second_slash at month day _ = None

-- the month after a day and a dot
abbrev pub after_dot : Clock → ℕ → Token → Option Read
after_dot at day (token.Number digits value) =
    if is_month_number digits value then Some (read.DotMonth at value day) else None
after_dot at day _ = None

-- the second dot
abbrev pub second_dot : Clock → ℕ → ℕ → Token → Option Read
second_dot at month day token.Dot = Some (read.YearDue at month day)
second_dot at month day _ = None

-- the month after a year and a dash
abbrev pub after_dash : Clock → ℕ → Token → Option Read
after_dash at year (token.Number digits value) =
    if is_month_number digits value then Some (read.DashMonth at value year) else None
after_dash at year _ = None

-- the second dash
abbrev pub second_dash : Clock → ℕ → ℕ → Token → Option Read
second_dash at month year token.Dash = Some (read.DayDue at month year)
second_dash at month year _ = None

-- the day after a year and a month
abbrev pub day_due : Clock → ℕ → ℕ → Token → Option Read
day_due at month year (token.Number digits value) =
    if is_day_number digits value then Some (read.Dated at (date.MonthDay month value (Some year))) else None
day_due at month year _ = None

-- the count after a plus
abbrev pub after_plus : Clock → DatePart → Token → Option Read
after_plus at day (token.Number digits value) =
    if is_count digits value then Some (read.Counted at day value) else None
after_plus at day _ = None

-- the unit of an increment
abbrev pub after_count : Clock → DatePart → ℕ → Token → Option Read
after_count at day count (token.Unit period) =
    Some (read.Whole (timespec_of at day (Some (record { count = count; period = period }))))
after_count at day count _ = None

-- what is read with one token more, if it may follow
abbrev pub step : Read → Token → Option Read
step read.Nothing coming = begin coming
step (read.Hour hour) coming = after_hour hour coming
step (read.HourColon hour) coming = after_colon hour coming
step (read.HourMinute hour minute) coming = after_minute hour minute coming
step (read.Half hour minute) coming = after_half hour minute coming
step (read.Timed at) coming = after_time at coming
step (read.MonthNamed at month) coming = after_month at month coming
step (read.DayNamed at month day) coming = after_day at month day coming
step (read.YearDue at month day) coming = year_due at month day coming
step (read.DateNumber at digits value) coming = after_number at digits value coming
step (read.MonthSlash at month) coming = after_slash at month coming
step (read.SlashDay at month day) coming = second_slash at month day coming
step (read.DayDot at day) coming = after_dot at day coming
step (read.DotMonth at month day) coming = second_dot at month day coming
step (read.YearDash at year) coming = after_dash at year coming
step (read.DashMonth at month year) coming = second_dash at month year coming
step (read.DayDue at month year) coming = day_due at month year coming
step (read.Dated at day) coming = after_date at day coming
step (read.Added at day) coming = after_plus at day coming
step (read.Counted at day count) coming = after_count at day count coming
step (read.Following at day) coming = after_count at day 1 coming
step (read.Whole spec) coming = None

-- the timespec that was read, if the tokens may end there
abbrev pub timespec_read : Read → Option Timespec
timespec_read (read.Hour hour) = Some (timespec_of (clock.At hour 0 false) date.Absent None)
timespec_read (read.HourMinute hour minute) = Some (timespec_of (clock.At hour minute false) date.Absent None)
timespec_read (read.Half hour minute) = Some (timespec_of (clock.At hour minute false) date.Absent None)
timespec_read (read.Timed at) = Some (timespec_of at date.Absent None)
timespec_read (read.DayNamed at month day) = Some (timespec_of at (date.MonthDay month day None) None)
timespec_read (read.Dated at day) = Some (timespec_of at day None)
timespec_read (read.Whole spec) = Some spec
timespec_read _ = None
