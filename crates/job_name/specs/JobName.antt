-- The name of a job's file (own): a letter, the hexadecimal digits of its number, eight or five, and eight of its minute.
use Rattle.std.specs.Prelude.{◌≡◌, ◌≤◌, ◌==◌, ◌&&◌, ◌+◌, ℕ, Bool, true, false, List, Option, Some, None, IsTrue, length, nat_le, slice_index, slice_range, if◌then◌else◌}
use Rattle.std.specs.Char.{is_ascii_alphabetic}
use Rattle.std.specs.Option.{option_or}
use Rattle.host_calls.specs.ClockRange.{IsClockMinute}
use Rattle.host_calls.specs.declared.clock_seconds.TheConstants.{LAST_MINUTE}
use Rattle.text_reader.specs.HexDigits.{SpellsNumber}
use Rattle.text_reader.specs.HexValues.{number_in}
use Rattle.spool_model.specs.Numbers.{number_digits}

-- a queue is a letter, a number at least 1, and a minute one of the clock's range
pub record IsInRange (queue number minute : ℕ) : Type 0 where
  pub letter : IsTrue (is_ascii_alphabetic queue)
  pub drawn : 1 ≤ number
  pub in_calendar : IsClockMinute minute

-- the bytes are the name of the job in this form: its queue, then the digits of its number, then eight of its minute
pub record SpellsJobName (bytes : List ℕ) (queue number minute : ℕ) (new_form : Bool) : Type 0 where
  pub counted : length bytes ≡ 9 + number_digits new_form
  pub in_range : IsInRange queue number minute
  pub first : slice_index bytes 0 ≡ queue
  pub next_digits : SpellsNumber (slice_range bytes 1 (1 + number_digits new_form)) number
  pub last_eight : SpellsNumber (slice_range bytes (1 + number_digits new_form) (9 + number_digits new_form)) minute

-- what the name of a job's file says, and whether its form is the new one
pub record NamedJob : Type 0 where
  pub queue : ℕ
  pub number : ℕ
  pub minute : ℕ
  pub new_form : Bool

-- the job of this queue, number and minute, if they are in range
abbrev pub job_in_range : Bool → ℕ → Option ℕ → Option ℕ → Option NamedJob
job_in_range new_form queue (Some number) (Some minute) =
    if is_ascii_alphabetic queue && nat_le 1 number && nat_le minute LAST_MINUTE
    then Some (record { queue = queue; number = number; minute = minute; new_form = new_form })
    else None
job_in_range new_form queue (Some number) None = None
job_in_range new_form queue None minute = None

-- the job that a name of this form is that of: a letter, the digits of its number and eight of its minute
abbrev pub job_spelled : Bool → List ℕ → Option NamedJob
job_spelled new_form name =
    if length name == 9 + number_digits new_form
    then job_in_range new_form (slice_index name 0)
    (number_in (slice_range name 1 (1 + number_digits new_form)))
    (number_in (slice_range name (1 + number_digits new_form) (9 + number_digits new_form)))
    else None

-- the job that a name is that of, in either form
abbrev pub job_named : List ℕ → Option NamedJob
job_named name = option_or (job_spelled true name) (job_spelled false name)
