-- The last number that was drawn, as the sequence file has it, or the place where that file is damaged (own), as it
-- computes.
use Rattle.std.specs.Prelude.{◌+◌, ◌==◌, ◌&&◌, [], ◌∷◌, ℕ, Bool, true, false, List, Option, Some, None, Result, Ok, Err, length, max, take, slice_index, if◌then◌else◌}
use Rattle.std.specs.Option.{option_or}
use Rattle.text_reader.specs.HexValues.{number_in}
use Rattle.host_calls.specs.declared.damage.Damage.{Damage}
use Rattle.host_calls.specs.Damages.{damage_at}
use Rattle.spool_model.specs.Numbers.{number_digits}
use Rattle.sequence_file.specs.Places.{fits_at}
use Rattle.sequence_file.specs.Sequence.{sequence_file}

-- the number of the bytes, if they are the digits of this form and a newline
abbrev pub sequence_as : Bool → List ℕ → Option ℕ
sequence_as new_form bytes =
    if length bytes == 1 + number_digits new_form && slice_index bytes (number_digits new_form) == 10
    then number_in (take (number_digits new_form) bytes)
    else None

-- the number of the bytes, if they are of one of the two forms
abbrev pub sequence_in : List ℕ → Option ℕ
sequence_in bytes = option_or (sequence_as true bytes) (sequence_as false bytes)

-- how many of the bytes may be in their places of the form, from this place on
abbrev pub fitting : Bool → ℕ → List ℕ → ℕ
fitting new_form place [] = 0
fitting new_form place (byte ∷ rest) = if fits_at new_form place byte then 1 + fitting new_form (place + 1) rest else 0

-- how many of the bytes may be in their places of one form
abbrev pub longest_fitting : List ℕ → ℕ
longest_fitting bytes = max (fitting true 0 bytes) (fitting false 0 bytes)

-- the number, or the first place that does not fit
abbrev pub number_or_damage : List ℕ → Option ℕ → Result ℕ Damage
number_or_damage bytes (Some number) = Ok number
number_or_damage bytes None = Err (damage_at sequence_file bytes (longest_fitting bytes))

-- what the sequence file gives; without a file it is 0
abbrev pub last_in : Option (List ℕ) → Result ℕ Damage
last_in None = Ok 0
last_in (Some bytes) = number_or_damage bytes (sequence_in bytes)
