-- What the reader gives at each part of the text; its lemmas show that it reads the spelling, and nothing else.
use Rattle.std.specs.Prelude.{ℕ, ◌+◌, ◌-◌, ◌^◌, ◌&&◌, ◌==◌, true, false, List, [], ◌∷◌, ◌++◌, length, take, drop, codes, Option, Some, None, option_map, Result, Ok, Err, nat_le, if◌then◌else◌}
use Rattle.std.specs.List.{position}
use Rattle.std.specs.Char.{is_ascii_digit}
use Rattle.std.specs.Str.{bytes_eq}
use Rattle.std.specs.Int.RustNames.{bit_or}
use Rattle.std.specs.Option.{option_or}
use Rattle.text_reader.specs.Blanks.{after_blanks, is_blank}
use Rattle.text_reader.specs.ReadResult.{Read, two_digits_in, ◌>>=◌}
use Rattle.cron_text.specs.Entry.{is_command, is_ignored}
use Rattle.cron_text.specs.Field as Field
use Rattle.cron_text.specs.declared.entry.CronEntry.{CronEntry}
use Rattle.cron_text.specs.declared.entry.Schedule.{Schedule}
use Rattle.cron_text.specs.declared.field.Field as declared

-- the number of the one digit that the text begins with
unfoldable pub digit_before : List ℕ → Read ℕ
digit_before [] = None
digit_before (ones ∷ rest) = if is_ascii_digit ones then Some (ones - 48, rest) else None

-- the number of one or two digits that the text begins with
unfoldable pub number_before : List ℕ → Read ℕ
number_before text = option_or (two_digits_in text) (digit_before text)

-- the range from a number to the one that the text is
unfoldable pub range_to : ℕ → List ℕ → Option (ℕ × ℕ)
range_to first text = do
  last ← number_before text
  if length last.1 == 0 then Some (first, last.0) else None

-- the range from a number, which has come before the text
unfoldable pub range_from : ℕ → List ℕ → Option (ℕ × ℕ)
range_from first [] = Some (first, first)
range_from first (hyphen ∷ rest) = if hyphen == 45 then range_to first rest else None

-- one number, or two with a hyphen between them
unfoldable pub span_in : List ℕ → Option (ℕ × ℕ)
span_in text = do
  first ← number_before text
  range_from first.0 first.1

-- a range that goes from low to high
unfoldable pub element_in : ℕ → ℕ → List ℕ → Option (ℕ × ℕ)
element_in low high text = do
  span ← span_in text
  if (nat_le low span.0 && nat_le span.0 span.1) && nat_le span.1 high then Some span else None

-- the number whose bits of the range are set
unfoldable pub bits_between : ℕ × ℕ → ℕ
bits_between span = 2 ^ (span.1 + 1) - 2 ^ span.0

-- the elements of a list
abbrev pub elements_of : List ℕ → List (List ℕ)
elements_of text = Field.elements_of text

-- the bits of all the elements, besides those that are set
unfoldable pub elements_in : ℕ → ℕ → ℕ → List (List ℕ) → Option ℕ
elements_in low high bits [] = Some bits
elements_in low high bits (element ∷ elements) = do
  span ← element_in low high element
  elements_in low high (bit_or bits (bits_between span)) elements

-- a pattern
unfoldable pub field_in : ℕ → ℕ → List ℕ → Option declared.Field
field_in low high text =
    if bytes_eq text (codes "*") then Some (record { star = true; bits = bits_between (low, high) })
    else option_map (λ bits. record { star = false; bits = bits }) (elements_in low high 0 (elements_of text))

-- the pattern that the text begins with, and what comes after the blanks next to it
unfoldable pub first_in : ℕ → ℕ → List ℕ → Read declared.Field
first_in low high text = do
  count ← position is_blank text
  field ← field_in low high (take count text)
  Some (field, after_blanks (drop count text))

-- five patterns
unfoldable pub schedule_in : List ℕ → Read Schedule
schedule_in line = do
  minute ← first_in 0 59 (after_blanks line)
  hour ← first_in 0 23 minute.1
  day ← first_in 1 31 hour.1
  month ← first_in 1 12 day.1
  weekday ← first_in 0 6 month.1
  Some (record { minute = minute.0; hour = hour.0; day = day.0; month = month.0; weekday = weekday.0 }, weekday.1)

-- five patterns and a command
unfoldable pub line_in : List ℕ → Read Schedule
line_in line = do
  found ← schedule_in line
  if is_command found.1 then Some found else None

-- the entry of these patterns and this command
abbrev pub cron_entry : Schedule → List ℕ → CronEntry
cron_entry schedule command = record {
  minute = schedule.minute;
  hour = schedule.hour;
  day = schedule.day;
  month = schedule.month;
  weekday = schedule.weekday;
  command = command;
}

-- an entry
abbrev pub entry_in_line : List ℕ → Option CronEntry
entry_in_line line = option_map (λ found. cron_entry found.0 found.1) (line_in line)

-- the entries with that of one more line, if the line isn't bad
unfoldable pub with_line : List CronEntry → List ℕ → Option (List CronEntry)
with_line entries line =
    if is_ignored line then Some entries else option_map (λ entry. entries ++ entry ∷ []) (entry_in_line line)

-- the entries with those of the lines, or the number of the first bad line, where so many lines come before these
unfoldable pub lines_in : List CronEntry → ℕ → List (List ℕ) → Result (List CronEntry) ℕ
lines_in entries count [] = Ok entries
lines_in entries count (line ∷ lines) =
    elim (with_line entries line) [ Some more ↦ lines_in more (count + 1) lines | None ↦ Err (count + 1) ]
