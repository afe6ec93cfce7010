-- What holds of all bytes and the numbers that they spell.
use Rattle.std.specs.Prelude.{◌≡◌, ◌<◌, ◌^◌, ◌↔◌, ℕ, List, Some, length}
use Rattle.text_reader.specs.HexDigits.{SpellsNumber, digits_of}
use Rattle.text_reader.specs.HexValues.{number_in}

-- the number that bytes are, as it computes, is the one that they spell
abbrev pub NumbersAreSpelled : Type 0
NumbersAreSpelled = (bytes : List ℕ) (number : ℕ) → (number_in bytes ≡ Some number) ↔ SpellsNumber bytes number

-- eight digits spell a number exactly where they are its digits, and it has no more
abbrev pub EightDigitsAreSpelled : Type 0
EightDigitsAreSpelled = (bytes : List ℕ) (number : ℕ) →
    ((length bytes ≡ 8) × SpellsNumber bytes number) ↔ ((number < 16 ^ 8) × (bytes ≡ digits_of number))
