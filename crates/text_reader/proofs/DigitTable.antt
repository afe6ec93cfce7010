-- The table of digits: it has the value of each byte that is a digit.
use Rattle.std.proofs.Common.{◌≡◌, ℕ, zero, suc, ◌+◌, ◌<◌, ◌≤◌, Bool, true, false, List, [], ◌∷◌, length, get_or, sym, ap, ◌∙◌, refl, arith}
use Rattle.std.specs.Prelude.{◌==◌, ◌&&◌, if◌then◌else◌}
use Rattle.std.proofs.lemmas.Bool.{and_parts, eqb-true}
use Rattle.text_reader.specs.HexDigits.{digit_byte}
use Rattle.text_reader.specs.HexValues.{digit_value, is_digit}
use Rattle.text_reader.specs.declared.hex_digit.TheConstants.{DIGITS}
use Rattle.text_reader.proofs.ValueLemmas.{digit_fits, digit_found}

-- the value of a byte, or 255
abbrev value_or_none : ℕ → ℕ
value_or_none byte = if is_digit byte then digit_value byte else 255

-- the bytes from one on have these values
are_values : ℕ → List ℕ → Bool
are_values first [] = true
are_values first (value ∷ later) = value == value_or_none first && are_values (suc first) later

table_has_values : are_values 0 DIGITS ≡ true
unfolding are_values
table_has_values = refl

value_from : (first place : ℕ) (values : List ℕ) → are_values first values ≡ true → place < length values
    → get_or values place 0 ≡ value_or_none (first + place)
unfolding are_values
value_from first place [] all inside = absurd (omega (arith, inside))
value_from first zero (value ∷ later) all inside =
    let same : first ≡ first + 0 = omega (arith) in
    eqb-true value (value_or_none first) (and_parts (value == value_or_none first) (are_values (suc first) later) all).0
    ∙ ap value_or_none same
value_from first (suc place) (value ∷ later) all inside =
    let same : suc first + place ≡ first + suc place = omega (arith) in
    value_from (suc first) place later (and_parts (value == value_or_none first) (are_values (suc first) later) all).1
    (omega (arith, inside)) ∙ ap value_or_none same

pub table_value : (byte : ℕ) → byte < 256 → get_or DIGITS byte 0 ≡ value_or_none byte
table_value byte small =
    let same : 0 + byte ≡ byte = omega (arith) in
    value_from 0 byte DIGITS table_has_values small ∙ ap value_or_none same

-- a byte with a value below 16 is that digit
pub digit_given : (byte digit : ℕ) → digit ≡ value_or_none byte → digit < 16 → byte ≡ digit_byte digit
digit_given byte digit is small = by_test (is_digit byte) refl is where
  by_test : (test : Bool) → is_digit byte ≡ test → digit ≡ (if test then digit_value byte else 255) → byte ≡ digit_byte digit
  by_test true passes same = (digit_found byte passes).1 ∙ ap digit_byte (sym same)
  by_test false fails same = absurd (omega (arith, small, same))

-- and one with another is none
pub no_digit_given : (byte value digit : ℕ) → value ≡ value_or_none byte → 16 ≤ value → digit < 16 → byte ≡ digit_byte digit → ⊥
no_digit_given byte value digit is great small same =
    let passes : is_digit byte ≡ true = ap is_digit same ∙ digit_fits digit small in
    let found : digit_value byte < 16 = (digit_found byte passes).0 in
    let given : value ≡ digit_value byte = is ∙ ap (λ b. if b then digit_value byte else 255) passes in
    absurd (omega (arith, great, found, given))
