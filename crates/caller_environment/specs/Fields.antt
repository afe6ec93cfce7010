-- Lines, their fields, and numbers in them (own).
use Rattle.std.specs.Prelude.{◌==◌, ◌&&◌, ℕ, Bool, List, Option, Some, None, length, nat_le, slice_get, if◌then◌else◌}
use Rattle.std.specs.Char.{is_ascii_digit}
use Rattle.std.specs.List.{after_last, list_all, slice_split}
use Rattle.load_reading.specs.Load.{number_of_digits}
use Rattle.caller_environment.specs.declared.digits.TheConstants.{MOST_DIGITS}

-- the field at this place, counted from 0, where this byte separates fields
abbrev pub field : ℕ → ℕ → List ℕ → Option (List ℕ)
field separator place line = slice_get (slice_split (λ byte. byte == separator) line) place

-- one to ten decimal digits
abbrev pub is_short_number : List ℕ → Bool
is_short_number digits = nat_le 1 (length digits) && nat_le (length digits) MOST_DIGITS && list_all is_ascii_digit digits

-- the number, where it is one of 32 bits
abbrev pub within_32_bits : ℕ → Option ℕ
within_32_bits number = if nat_le number 4294967295 then Some number else None

-- the user number that one to ten digits write, where it is one of 32 bits
abbrev pub user_number : List ℕ → Option ℕ
user_number digits = if is_short_number digits then within_32_bits (number_of_digits digits) else None

-- the bytes after the last of this kind, or all
abbrev pub part_after_last : ℕ → List ℕ → List ℕ
part_after_last mark text = after_last (λ byte. byte == mark) text
