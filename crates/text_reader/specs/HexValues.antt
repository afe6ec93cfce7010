-- The numbers that bytes are in hexadecimal digits, as they compute.
use Rattle.std.specs.Prelude.{◌==◌, ◌||◌, ◌+◌, ◌-◌, ◌*◌, ℕ, Bool, List, Option, Some, None, fold, nat_lt, if◌then◌else◌}
use Rattle.std.specs.Int.{is_in_range}
use Rattle.std.specs.List.{list_all}

-- `0` to `9` and `a` to `f`
abbrev pub is_digit : ℕ → Bool
is_digit byte = is_in_range 48 57 byte || is_in_range 97 102 byte

-- the number that a digit stands for
abbrev pub digit_value : ℕ → ℕ
digit_value byte = if nat_lt byte 58 then byte - 48 else byte - 87

-- the number that the digits spell
abbrev pub value_of_digits : List ℕ → ℕ
value_of_digits digits = fold (λ value byte. value * 16 + digit_value byte) 0 digits

-- each of the bytes is a digit, or a zero
abbrev pub are_digits : List ℕ → Bool
are_digits bytes = list_all is_digit bytes

abbrev pub are_zeros : List ℕ → Bool
are_zeros bytes = list_all (λ byte. byte == 48) bytes

-- the number that the bytes are, if each of them is a digit
abbrev pub number_in : List ℕ → Option ℕ
number_in bytes = if are_digits bytes then Some (value_of_digits bytes) else None
