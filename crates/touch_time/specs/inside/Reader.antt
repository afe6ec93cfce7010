-- What the reader gives at each part of the text; its lemmas show that it reads the spelling, and nothing else.
use Rattle.std.specs.Prelude.{ℕ, ◌+◌, ◌*◌, ◌&&◌, ◌||◌, ◌==◌, Bool, true, false, List, [], ◌∷◌, length, Option, Some, None, nat_lt, nat_le, if◌then◌else◌}
use Rattle.text_reader.specs.ReadResult.{Read, two_digits_in, ◌>>=◌}
use Rattle.touch_time.specs.declared.touch.TouchTime.{TouchTime}

-- a number from low to high, in two digits
unfoldable pub read_within : ℕ → ℕ → List ℕ → Read ℕ
read_within low high text = do
  number ← two_digits_in text
  if nat_le low number.0 && nat_le number.0 high then Some number else None

-- a year by its last two digits
unfoldable pub read_short_year : List ℕ → Read (Option ℕ)
read_short_year text = do
  year ← read_within 0 99 text
  Some (Some ((if nat_lt year.0 69 then 2000 else 1900) + year.0), year.1)

-- a year by all four
unfoldable pub read_full_year : List ℕ → Read (Option ℕ)
read_full_year text = do
  century ← read_within 0 99 text
  year ← read_within 0 99 century.1
  Some (Some (century.0 * 100 + year.0), year.1)

-- a year, by the length of the whole text
unfoldable pub read_year : List ℕ → Read (Option ℕ)
read_year text =
    if (length text == 8) || (length text == 11) then Some (None, text)
    else (if (length text == 10) || (length text == 13) then read_short_year text
    else (if (length text == 12) || (length text == 15) then read_full_year text else None))

-- a number was read, and it was the last
abbrev pub is_last_number : Read ℕ → Bool
is_last_number None = false
is_last_number (Some read) = length read.1 == 0

-- nothing, or a point and seconds
unfoldable pub is_seconds : List ℕ → Bool
is_seconds [] = true
is_seconds (point ∷ rest) = (point == 46) && is_last_number (read_within 0 60 rest)

-- a time and nothing after it
unfoldable pub read_touch : List ℕ → Option TouchTime
read_touch text = do
  year ← read_year text
  month ← read_within 1 12 year.1
  day ← read_within 1 31 month.1
  hour ← read_within 0 23 day.1
  minute ← read_within 0 59 hour.1
  if is_seconds minute.1
      then Some (record {
        year = year.0;
        month = month.0;
        day = day.0;
        hour = hour.0;
        minute = minute.0;
      })
      else None
