-- A date as `date +"%a %b %e %T %Y"` writes it in the POSIX locale (XCU date, XBD LC_TIME).
use Rattle.std.specs.Prelude.{ℕ, ◌+◌, ◌-◌, ◌/◌, ◌%◌, List, [], ◌∷◌, ◌++◌, slice_index_or, codes, nat_lt, if◌then◌else◌}
use Rattle.std.specs.Fmt.{signed_decimal}
use Rattle.touch_time.specs.Touch.{two_digits}
use Rattle.civil_minute.specs.declared.civil.CivilMinute.{CivilMinute}

-- `%a`: the short name of a weekday, counted from Sunday as 0
abbrev pub weekday_text : ℕ → List ℕ
weekday_text weekday =
    slice_index_or (codes "Sun" ∷ codes "Mon" ∷ codes "Tue" ∷ codes "Wed" ∷ codes "Thu"
    ∷ codes "Fri" ∷ codes "Sat" ∷ []) weekday []

-- `%b`: the short name of a month, counted from January as 1
abbrev pub month_text : ℕ → List ℕ
month_text month =
    slice_index_or
    (codes "Jan" ∷ codes "Feb" ∷ codes "Mar" ∷ codes "Apr" ∷ codes "May" ∷ codes "Jun"
    ∷ codes "Jul" ∷ codes "Aug" ∷ codes "Sep" ∷ codes "Oct" ∷ codes "Nov" ∷ codes "Dec" ∷ [])
    (month - 1) []

-- the digit of a number below 10
abbrev pub digit : ℕ → ℕ
digit number = 48 + number

-- the first place of a day: a space below 10
abbrev pub day_tens : ℕ → ℕ
day_tens day = if nat_lt day 10 then 32 else digit (day / 10)

-- `%e`: a day in two places
abbrev pub day_text : ℕ → List ℕ
day_text day = day_tens day ∷ digit (day % 10) ∷ []

-- `%T`: hour, minute and second
abbrev pub time_text : CivilMinute → List ℕ
time_text civil =
    two_digits civil.hour ++ codes ":" ++ two_digits civil.minute ++ codes ":"
    ++ two_digits civil.second

-- the date and the time, as `Wed Jan  1 00:00:00 2025`
abbrev pub date_text_of : CivilMinute → List ℕ
date_text_of civil =
    weekday_text civil.weekday ++ codes " " ++ month_text civil.month ++ codes " "
    ++ day_text civil.day ++ codes " " ++ time_text civil ++ codes " " ++ signed_decimal civil.year
