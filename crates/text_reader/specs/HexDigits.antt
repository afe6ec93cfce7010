-- Numbers in hexadecimal digits, each byte by its place.
use Rattle.std.specs.Prelude.{◌≡◌, ◌<◌, ◌+◌, ◌-◌, ◌/◌, ◌%◌, ◌^◌, ℕ, List, [], ◌∷◌, length, slice_index, nat_lt, if◌then◌else◌}

-- the byte of a digit: `0` to `9` and `a` to `f`
abbrev pub digit_byte : ℕ → ℕ
digit_byte digit = if nat_lt digit 10 then 48 + digit else 87 + digit

-- the digit of a number at a place, counted from the right
abbrev pub digit_at : ℕ → ℕ → ℕ
digit_at number place = number / 16 ^ place % 16

-- the bytes are the digits of the number, as many as it is written in, the greatest place first
pub record SpellsNumber (bytes : List ℕ) (number : ℕ) : Type 0 where
  pub fits : number < 16 ^ length bytes
  pub each : (place : ℕ) → place < length bytes → slice_index bytes place ≡ digit_byte (digit_at number (length bytes - 1 - place))

-- the byte of a number's digit at a place, counted from the right
abbrev pub byte_at : ℕ → ℕ → ℕ
byte_at number place = digit_byte (digit_at number place)

-- the eight last digits of a number
abbrev pub digits_of : ℕ → List ℕ
digits_of number =
    byte_at number 7 ∷ byte_at number 6 ∷ byte_at number 5 ∷ byte_at number 4
    ∷ byte_at number 3 ∷ byte_at number 2 ∷ byte_at number 1 ∷ byte_at number 0 ∷ []
