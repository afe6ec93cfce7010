-- A slot of the journal (own): 32 bytes, each field by its places.
use Rattle.std.specs.Prelude.{◌≡◌, ◌≤◌, ◌==◌, ℕ, ℤ, pos, List, Option, Some, None, IsTrue, length, slice_index, slice_range, unsigned_abs, nat_le, if◌then◌else◌}
use Rattle.std.specs.Char.{is_ascii_alphabetic}
use Rattle.host_calls.specs.declared.child.Ending.{Ending}
use Rattle.host_calls.specs.declared.child.Ending.TheVariants.{Exit, Signal, NotStarted}
use Rattle.text_reader.specs.HexDigits.{SpellsNumber}
use Rattle.start_journal.specs.declared.fields.Fields.{Fields}
use Rattle.start_journal.specs.declared.mark.Mark.{Mark}
use Rattle.start_journal.specs.declared.mark.Mark.TheVariants.{Removed, Started, Ended, Interrupted, Forgotten, Batch}
use Rattle.host_calls.specs.declared.clock_seconds.TheConstants.{LAST_SECOND}
use Rattle.host_calls.specs.ClockRange.{IsClockSecond}

-- what a Started mark needs: the number of a job, the letter of a queue, and a second
pub record IsStart (number queue : ℕ) (second : ℤ) : Type 0 where
  pub drawn : 1 ≤ number
  pub letter : IsTrue (is_ascii_alphabetic queue)
  pub second_of : IsClockSecond second

-- The mark can be written.
abbrev pub IsWritable : Mark → Type 0
IsWritable (Removed number) = 1 ≤ number
IsWritable (Started number queue second) = IsStart number queue second
IsWritable (Ended number ending) = 1 ≤ number
IsWritable (Interrupted number) = 1 ≤ number
IsWritable (Forgotten number) = 1 ≤ number
IsWritable (Batch second) = IsClockSecond second

-- the fields of a slot that says no more than its kind and a number
abbrev pub plain_fields : ℕ → ℕ → Fields
plain_fields kind number = record { kind = kind; number = number; queue = 45; ending = 45; status = 0; second = 0 }

-- the byte of an ending: `x`, `s` or `n`
abbrev pub ending_byte : Ending → ℕ
ending_byte (Exit status) = 120
ending_byte (Signal signal) = 115
ending_byte NotStarted = 110

-- the number of an ending: the exit status or the signal
abbrev pub ending_status : Ending → ℕ
ending_status (Exit status) = status
ending_status (Signal signal) = signal
ending_status NotStarted = 0

-- the fields of a mark: `R`, `S`, `E`, `I`, `F` or `B`, and what it says
abbrev pub fields_of : Mark → Fields
fields_of (Removed number) = plain_fields 82 number
fields_of (Started number queue second) =
    record { kind = 83; number = number; queue = queue; ending = 45; status = 0; second = unsigned_abs second }
fields_of (Ended number ending) =
    record { kind = 69; number = number; queue = 45; ending = ending_byte ending; status = ending_status ending; second = 0 }
fields_of (Interrupted number) = plain_fields 73 number
fields_of (Forgotten number) = plain_fields 70 number
fields_of (Batch second) = record { kind = 66; number = 0; queue = 45; ending = 45; status = 0; second = unsigned_abs second }

-- the slot, its gate open, has these fields
pub record SpellsFields (slot : List ℕ) (fields : Fields) : Type 0 where
  pub counted : length slot ≡ 32
  pub gate : slice_index slot 0 ≡ 43
  pub kind : slice_index slot 1 ≡ fields.kind
  pub number : SpellsNumber (slice_range slot 2 10) fields.number
  pub queue : slice_index slot 10 ≡ fields.queue
  pub ending : slice_index slot 11 ≡ fields.ending
  pub status : SpellsNumber (slice_range slot 12 14) fields.status
  pub second : SpellsNumber (slice_range slot 14 30) fields.second
  pub point : slice_index slot 30 ≡ 46
  pub newline : slice_index slot 31 ≡ 10

-- the slot is that of the mark, its gate open
pub record SpellsMark (slot : List ℕ) (mark : Mark) : Type 0 where
  pub writable : IsWritable mark
  pub fields : SpellsFields slot (fields_of mark)

-- the ending with this byte and number, if there is one
abbrev pub ending_with : ℕ → ℕ → Option Ending
ending_with byte status =
    if byte == 120 then Some (Exit status)
    else if byte == 115 then Some (Signal status)
    else if byte == 110 then Some NotStarted else None

-- the end of a number, if its ending is one
abbrev pub ended_with : ℕ → Option Ending → Option Mark
ended_with number (Some ending) = Some (Ended number ending)
ended_with number None = None

-- the mark of this kind, by what the fields say
abbrev pub mark_of_kind : Fields → Option Mark
mark_of_kind fields =
    if fields.kind == 82 then Some (Removed fields.number)
    else if fields.kind == 83 then Some (Started fields.number fields.queue (pos fields.second))
    else if fields.kind == 69 then ended_with fields.number (ending_with fields.ending fields.status)
    else if fields.kind == 73 then Some (Interrupted fields.number)
    else if fields.kind == 70 then Some (Forgotten fields.number)
    else if fields.kind == 66 then Some (Batch (pos fields.second)) else None

-- the only mark that can have the fields
abbrev pub mark_with : Fields → Option Mark
mark_with fields = if nat_le fields.second (unsigned_abs LAST_SECOND) then mark_of_kind fields else None
