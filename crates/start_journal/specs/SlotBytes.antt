-- The bytes of a slot (own): the mark that they give, and how far they are those of some mark.
use Rattle.std.specs.Prelude.{unsigned_abs, ◌≡◌, ◌≤◌, ◌==◌, ◌&&◌, ◌||◌, ◌+◌, ◌-◌, ◌/◌, ◌^◌, ℕ, suc, Bool, List, [], ◌∷◌, Option, Some, None, length, take, slice_index, slice_range, nat_le, nat_lt, if◌then◌else◌}
use Rattle.std.specs.Char.{is_ascii_alphabetic}
use Rattle.start_journal.specs.declared.fields.Fields.{Fields}
use Rattle.start_journal.specs.declared.mark.Mark.{Mark}
use Rattle.start_journal.specs.declared.mark.Mark.TheVariants.{Removed, Started, Ended, Interrupted, Forgotten, Batch}
use Rattle.start_journal.specs.Slots.{SpellsMark, fields_of, mark_with}
use Rattle.host_calls.specs.declared.clock_seconds.TheConstants.{LAST_SECOND}
use Rattle.text_reader.specs.HexValues.{is_digit, value_of_digits, are_digits, are_zeros}
use Rattle.host_calls.specs.ClockRange.{is_clock_second}

-- 32 bytes have the form of a slot whose gate is open
abbrev pub has_form : List ℕ → Bool
has_form slot =
    length slot == 32 && slice_index slot 0 == 43 && are_digits (slice_range slot 2 10)
    && are_digits (slice_range slot 12 14) && are_digits (slice_range slot 14 30)
    && slice_index slot 30 == 46 && slice_index slot 31 == 10

-- the fields of a slot of that form
abbrev pub fields_in : List ℕ → Fields
fields_in slot =
    record {
      kind = slice_index slot 1;
      number = value_of_digits (slice_range slot 2 10);
      queue = slice_index slot 10;
      ending = slice_index slot 11;
      status = value_of_digits (slice_range slot 12 14);
      second = value_of_digits (slice_range slot 14 30);
    }

-- the fields are the same
abbrev pub are_same_fields : Fields → Fields → Bool
are_same_fields one other =
    one.kind == other.kind && one.number == other.number && one.queue == other.queue
    && one.ending == other.ending && one.status == other.status && one.second == other.second

-- the mark can be written
abbrev pub can_write : Mark → Bool
can_write (Removed number) = nat_le 1 number
can_write (Started number queue second) = nat_le 1 number && is_ascii_alphabetic queue && is_clock_second second
can_write (Ended number ending) = nat_le 1 number
can_write (Interrupted number) = nat_le 1 number
can_write (Forgotten number) = nat_le 1 number
can_write (Batch second) = is_clock_second second

-- the mark, where it can be written and says all that the fields do
abbrev pub mark_saying : Fields → Option Mark → Option Mark
mark_saying fields (Some mark) = if can_write mark && are_same_fields (fields_of mark) fields then Some mark else None
mark_saying fields None = None

-- the mark that a slot spells, its gate open, if it spells one
unfoldable pub mark_in : List ℕ → Option Mark
mark_in slot = if has_form slot then mark_saying (fields_in slot) (mark_with (fields_in slot)) else None

-- one of `R`, `S`, `E`, `I`, `F` and `B`
abbrev pub is_kind : ℕ → Bool
is_kind byte = byte == 82 || byte == 83 || byte == 69 || byte == 73 || byte == 70 || byte == 66

-- digits that the number of a slot of this kind begins with: zeros for `B`, else not all of the eight are zeros
abbrev pub is_number_prefix : ℕ → List ℕ → Bool
is_number_prefix kind digits =
    if kind == 66 then are_zeros digits
    else (are_digits digits && (nat_lt (length digits) 8 || nat_le 1 (value_of_digits digits)))

-- digits that the second of such a slot begins with: up to the last second for `S` and `B`, else zeros
abbrev pub is_second_prefix : ℕ → List ℕ → Bool
is_second_prefix kind digits =
    if kind == 83 || kind == 66
    then (are_digits digits && nat_le (value_of_digits digits) (unsigned_abs LAST_SECOND / 16 ^ (16 - length digits)))
    else are_zeros digits

-- the queue of such a slot: a letter for `S`, else `-`
abbrev pub is_queue_of : ℕ → ℕ → Bool
is_queue_of kind byte = if kind == 83 then is_ascii_alphabetic byte else byte == 45

-- its ending: `x`, `s` or `n` for `E`, else `-`
abbrev pub is_ending_of : ℕ → ℕ → Bool
is_ending_of kind byte = if kind == 69 then (byte == 120 || byte == 115 || byte == 110) else byte == 45

-- a byte of the ending's number: a digit for `x` and `s`, else a zero
abbrev pub is_status_of : ℕ → ℕ → Bool
is_status_of ending byte = if ending == 120 || ending == 115 then is_digit byte else byte == 48

-- After those before it the byte at this place is one of some mark's slot.
unfoldable pub may_stand : List ℕ → ℕ → Bool
may_stand slot place =
    if place == 0 then slice_index slot 0 == 43
    else if place == 1 then is_kind (slice_index slot 1)
    else if nat_lt place 10 then is_number_prefix (slice_index slot 1) (slice_range slot 2 (place + 1))
    else if place == 10 then is_queue_of (slice_index slot 1) (slice_index slot 10)
    else if place == 11 then is_ending_of (slice_index slot 1) (slice_index slot 11)
    else if nat_lt place 14 then is_status_of (slice_index slot 11) (slice_index slot place)
    else if nat_lt place 30 then is_second_prefix (slice_index slot 1) (slice_range slot 14 (place + 1))
    else if place == 30 then slice_index slot 30 == 46 else (place == 31 && slice_index slot 31 == 10)

-- how many of the bytes are allowed, from a place on, if those before it do
abbrev pub standing_from : List ℕ → ℕ → List ℕ → ℕ
standing_from slot place [] = place
standing_from slot place (byte ∷ later) = if may_stand slot place then standing_from slot (suc place) later else place

-- how many of the first bytes of a slot some mark's slot has too
unfoldable pub right_prefix : List ℕ → ℕ
right_prefix slot = standing_from slot 0 slot

-- some mark's slot, its gate open, has the first bytes too
pub record HasSlotPrefix (slot : List ℕ) (count : ℕ) : Type 0 where
  pub mark : Mark
  pub right : List ℕ
  pub spelled : SpellsMark right mark
  pub inside : count ≤ length slot
  pub prefix : take count right ≡ take count slot
