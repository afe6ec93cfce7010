-- Which numbers are allowed where in a time (POSIX.1-2017, XCU, at: timespec), by their digits and their
-- value. How many digits a count has, and that it may be 0, is this project's own.
use Rattle.std.specs.Prelude.{ℕ, ◌/◌, ◌%◌, ◌==◌, ◌&&◌, ◌||◌, Bool, nat_le}
use Rattle.timespec_grammar.specs.declared.numbers.TheConstants.{MAX_COUNT, MAX_COUNT_DIGITS}

-- an hour of the 24-hour clock, in one digit or two
abbrev pub is_hour : ℕ → ℕ → Bool
is_hour digits value = (digits == 1 && nat_le value 9) || (digits == 2 && nat_le value 23)

-- an hour that the 12-hour clock has
abbrev pub is_twelve : ℕ → Bool
is_twelve hour = nat_le 1 hour && nat_le hour 12

-- two digits of an hour of the 24-hour clock and two of a minute
abbrev pub is_hour_minute : ℕ → ℕ → Bool
is_hour_minute digits value = digits == 4 && nat_le (value / 100) 23 && nat_le (value % 100) 59

-- a minute, in one digit or two
abbrev pub is_minute : ℕ → ℕ → Bool
is_minute digits value = (digits == 1 && nat_le value 9) || (digits == 2 && nat_le value 59)

-- a month: January is 1
abbrev pub is_month : ℕ → Bool
is_month month = nat_le 1 month && nat_le month 12

-- a day of the week: Sunday is 0
abbrev pub is_weekday_number : ℕ → Bool
is_weekday_number day = nat_le day 6

-- a day of a month, in one digit or two
abbrev pub is_day_number : ℕ → ℕ → Bool
is_day_number digits value = nat_le 1 digits && nat_le digits 2 && nat_le value 99

-- a month in one digit or two: January is 1
abbrev pub is_month_number : ℕ → ℕ → Bool
is_month_number digits value = ((digits == 1 && nat_le value 9) || digits == 2) && is_month value

-- a year, in four digits
abbrev pub is_year : ℕ → ℕ → Bool
is_year digits value = digits == 4 && nat_le value 9999

-- a number that a date may begin with: that of a day, as which each month's number counts too, or that of a year
abbrev pub is_date_number : ℕ → ℕ → Bool
is_date_number digits value = is_day_number digits value || is_year digits value

-- a count of periods, in few digits
abbrev pub is_count : ℕ → ℕ → Bool
is_count digits value = nat_le 1 digits && nat_le digits MAX_COUNT_DIGITS && nat_le value MAX_COUNT
