-- Digits and their value: it is the number that they spell, and no other.
use Rattle.std.proofs.Common.{◌≡◌, ℕ, zero, suc, ◌+◌, ◌-◌, ◌*◌, ◌/◌, ◌^◌, ◌<◌, ◌≤◌, Bool, true, false, List, [], ◌∷◌, ◌++◌, Some, None, length, take, replicate, sym, ap, subst, ◌∙◌, refl, arith, append_assoc}
use Rattle.std.specs.Prelude.{◌==◌, fold, slice_index, if◌then◌else◌}
use Rattle.std.proofs.Math.Nat.{pow-le-pow_right, pow-suc}
use Rattle.std.proofs.lemmas.Bool.Decides.{nat_tests}
use Rattle.std.proofs.lemmas.List.{append-nil, length-replicate, take_more}
use Rattle.std.proofs.lemmas.Nat.{mod_below}
use Rattle.text_reader.specs.HexDigits.{SpellsNumber, digit_byte}
use Rattle.text_reader.specs.HexValues.{are_digits, are_zeros, digit_value, is_digit, number_in, value_of_digits}
use Rattle.text_reader.proofs.DigitLemmas.{one_number, one_spelling, spells_more}
use Rattle.std.proofs.lemmas.Bool.{and_parts, eqb-true}
use Rattle.text_reader.proofs.TestLemmas.{all_by_place}

-- the byte of a digit is one, and stands for it
pub digit_fits : (digit : ℕ) → digit < 16 → is_digit (digit_byte digit) ≡ true
digit_fits digit small = grind (arith, nat_tests)

-- a digit is the byte of what it stands for
pub digit_found : (byte : ℕ) → is_digit byte ≡ true → (digit_value byte < 16) × (byte ≡ digit_byte (digit_value byte))
digit_found byte is = (grind (arith, nat_tests), grind (arith, nat_tests))

-- what spells a number are digits
pub spelled_digits : (bytes : List ℕ) (number : ℕ) → SpellsNumber bytes number → are_digits bytes ≡ true
spelled_digits bytes number spelled = all_by_place is_digit bytes (λ place inside.
    ap is_digit (spelled.each place inside) ∙ digit_fits _ (mod_below (number / 16 ^ (length bytes - 1 - place)) 16 (omega arith)))

-- digits after others spell what both come to
digits_after : (prefix bytes : List ℕ) (number : ℕ) → SpellsNumber prefix number → are_digits bytes ≡ true
    → SpellsNumber (prefix ++ bytes) (fold (λ value byte. value * 16 + digit_value byte) number bytes)
digits_after prefix [] number spelled digits = subst (λ list. SpellsNumber list number) (sym (append-nil prefix)) spelled
digits_after prefix (byte ∷ bytes) number spelled digits =
    let tests : (is_digit byte ≡ true) × (are_digits bytes ≡ true) = and_parts (is_digit byte) (are_digits bytes) digits in
    let digit : (digit_value byte < 16) × (byte ≡ digit_byte (digit_value byte)) = digit_found byte tests.0 in
    let more : SpellsNumber (prefix ++ byte ∷ []) (number * 16 + digit_value byte) =
    subst (λ last. SpellsNumber (prefix ++ last ∷ []) (number * 16 + digit_value byte)) (sym digit.1)
    (spells_more prefix number (digit_value byte) spelled digit.0) in
    subst (λ list. SpellsNumber list (fold (λ value b. value * 16 + digit_value b) (number * 16 + digit_value byte) bytes))
    (append_assoc prefix (byte ∷ []) bytes) (digits_after (prefix ++ byte ∷ []) bytes (number * 16 + digit_value byte) more tests.1)

-- digits spell their value
pub digits_spell : (bytes : List ℕ) → are_digits bytes ≡ true → SpellsNumber bytes (value_of_digits bytes)
digits_spell bytes digits = digits_after [] bytes 0 (record { fits = omega arith; each = λ place none. absurd (omega arith) }) digits

-- and no other number
pub value_spelled : (bytes : List ℕ) (number : ℕ) → SpellsNumber bytes number → value_of_digits bytes ≡ number
value_spelled bytes number spelled =
    one_number bytes (value_of_digits bytes) number (digits_spell bytes (spelled_digits bytes number spelled)) spelled

-- the value of digits and one more
pub fold_last : (number : ℕ) (bytes : List ℕ) (byte : ℕ) → fold (λ value b. value * 16 + digit_value b) number (bytes ++ byte ∷ [])
    ≡ fold (λ value b. value * 16 + digit_value b) number bytes * 16 + digit_value byte
fold_last number [] byte = refl
fold_last number (first ∷ later) byte = fold_last (number * 16 + digit_value first) later byte

pub value_last : (bytes : List ℕ) (byte : ℕ) → value_of_digits (bytes ++ byte ∷ []) ≡ value_of_digits bytes * 16 + digit_value byte
value_last bytes byte = fold_last 0 bytes byte

-- zeros spell 0
pub value_zeros : (count : ℕ) → value_of_digits (replicate count 48) ≡ 0
value_zeros zero = refl
value_zeros (suc count) = value_zeros count

pub zeros_digits : (count : ℕ) → are_digits (replicate count 48) ≡ true
zeros_digits zero = refl
zeros_digits (suc count) = zeros_digits count

pub zeros_zeros : (count : ℕ) → are_zeros (replicate count 48) ≡ true
zeros_zeros zero = refl
zeros_zeros (suc count) = zeros_zeros count

pub zero_spelled : (count : ℕ) → SpellsNumber (replicate count 48) 0
zero_spelled count = subst (SpellsNumber (replicate count 48)) (value_zeros count) (digits_spell (replicate count 48) (zeros_digits count))

pub zeros_of : (digits : List ℕ) → SpellsNumber digits 0 → are_zeros digits ≡ true
zeros_of digits spelled =
    ap are_zeros (one_spelling digits (replicate (length digits) 48) 0 (sym (length-replicate (length digits) 48)) spelled
    (zero_spelled (length digits))) ∙ zeros_zeros (length digits)

pub copies : (bytes : List ℕ) → are_zeros bytes ≡ true → bytes ≡ replicate (length bytes) 48
copies [] all = refl
copies (byte ∷ later) all =
    let tests : ((byte == 48) ≡ true) × (are_zeros later ≡ true) = and_parts _ _ all in
    ap (λ first. first ∷ later) (eqb-true byte 48 tests.0) ∙ ap (λ rest. 48 ∷ rest) (copies later tests.1)

pub spelled_zero : (bytes : List ℕ) → are_zeros bytes ≡ true → SpellsNumber bytes 0
spelled_zero bytes all = subst (λ list. SpellsNumber list 0) (sym (copies bytes all)) (zero_spelled (length bytes))

-- the first digits of a second
pub some_power : (count : ℕ) → 0 < 16 ^ count
some_power count =
    let from : 0 ≤ count = omega arith in
    let least : 16 ^ 0 ≤ 16 ^ count = pow-le-pow_right (omega arith) from in
    omega arith

pub value_prefix : (digits : List ℕ) (count more : ℕ) → count + more ≤ length digits
    → value_of_digits (take count digits) * 16 ^ more ≤ value_of_digits (take (count + more) digits)
value_prefix digits count zero inside =
    let same : count + 0 ≡ count = omega arith in
    subst (λ n. value_of_digits (take count digits) * 16 ^ 0 ≤ value_of_digits (take n digits)) (sym same) (omega arith)
value_prefix digits count (suc more) inside =
    let before : value_of_digits (take count digits) * 16 ^ more ≤ value_of_digits (take (count + more) digits) =
    value_prefix digits count more (omega arith) in
    let step : value_of_digits (take (count + more + 1) digits)
    ≡ value_of_digits (take (count + more) digits) * 16 + digit_value (slice_index digits (count + more)) =
    ap value_of_digits (take_more digits (count + more) 0 (omega arith))
    ∙ value_last (take (count + more) digits) (slice_index digits (count + more)) in
    let next : count + more + 1 ≡ count + suc more = omega arith in
    let at_next : value_of_digits (take (count + suc more) digits) ≡ value_of_digits (take (count + more) digits) * 16
    + digit_value (slice_index digits (count + more)) = sym (ap (λ n. value_of_digits (take n digits)) next) ∙ step in
    let power : 16 ^ suc more ≡ 16 ^ more * 16 = pow-suc 16 more in
    let moved : value_of_digits (take count digits) * (16 ^ more * 16) ≤ value_of_digits (take (count + suc more) digits) = omega arith in
    subst (λ p. value_of_digits (take count digits) * p ≤ value_of_digits (take (count + suc more) digits)) (sym power) moved

-- digits give the number that they spell
pub number_given : (bytes : List ℕ) (number : ℕ) → SpellsNumber bytes number → number_in bytes ≡ Some number
number_given bytes number spelled =
    ap (λ digits. if digits then Some (value_of_digits bytes) else None) (spelled_digits bytes number spelled)
    ∙ ap Some (value_spelled bytes number spelled)

pub number_spelled : (bytes : List ℕ) (number : ℕ) → number_in bytes ≡ Some number → SpellsNumber bytes number
number_spelled bytes number is = by_test (are_digits bytes) refl is where
  by_test : (digits : Bool) → are_digits bytes ≡ digits → (if digits then Some (value_of_digits bytes) else None) ≡ Some number
      → SpellsNumber bytes number
  by_test true digits found =
      subst (SpellsNumber bytes) (let same : value_of_digits bytes ≡ number = cc in same) (digits_spell bytes digits)
  by_test false other found = cc
