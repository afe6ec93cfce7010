-- What `parse` reads of digits.
use Rattle.std.proofs.Common.{◌≡◌, ◌&&◌, ◌<◌, ◌≤◌, ◌^◌, ℕ, true, List, length, Ok, Err, rules, arith, inl, inr, refl, ap}
use Rattle.std.specs.Prelude.{None, nat_le}
use Rattle.std.specs.List.{list_all}
use Rattle.std.specs.Char.{is_ascii_digit}
use Rattle.std.specs.Str.Parse.{ParsesUnsigned}
use Rattle.std.proofs.lemmas.Bool.{cases_lt}
use Rattle.std.proofs.lemmas.Bool.Decides.{nat_tests}
use Rattle.std.proofs.lemmas.Str.Parse.{IsNumeralModel, numerals_by_fold, parse_digits}
use Rattle.clap.proofs.WalkLemmas.{both}
use Rattle.at_words.specs.Digits.{are_decimal_digits, digits_after, decimal_in, decimal_of, within}

-- digits and the number that they write, for `parse`
own_numerals : IsNumeralModel (λ digits. list_all is_ascii_digit digits ≡ true) (digits_after 0)
own_numerals = numerals_by_fold _ (search rules) digits_after (search rules)

-- a test of an order tells it
le_true : (first second : ℕ) → nat_le first second ≡ true → first ≤ second
le_true first second is = grind (arith, nat_tests)

-- no number beyond the greatest is within
beyond : (least greatest number : ℕ) → greatest < number → within least greatest number ≡ None
beyond least greatest number past = grind (arith, nat_tests)

-- where `parse` reads a number, it is the one that the digits write
pub decimal_in-Ok : (most least greatest : ℕ) (text : List ℕ) (number : ℕ) → are_decimal_digits most text ≡ true
    → ParsesUnsigned {E = ℕ} 64 10 text (Ok number) → within least greatest number ≡ decimal_in most least greatest text
decimal_in-Ok most least greatest text number digits parsed =
    let parts = both (nat_le 1 (length text) && nat_le (length text) most) (list_all is_ascii_digit text) digits in
    let read = parse_digits own_numerals {E = ℕ} 64 text (Ok number) parsed parts.1 in
    rw digits (ap (within least greatest) read.1)

-- where it reads none, the number is beyond each that fits
pub decimal_in-Err : (most least greatest : ℕ) (text : List ℕ) → are_decimal_digits most text ≡ true → greatest < 2 ^ 64
    → ParsesUnsigned {E = ℕ} 64 10 text (Err 0) → None ≡ decimal_in most least greatest text
decimal_in-Err most least greatest text digits fits parsed =
    let parts = both (nat_le 1 (length text) && nat_le (length text) most) (list_all is_ascii_digit text) digits in
    let some : 1 ≤ length text = le_true 1 (length text) (both (nat_le 1 (length text)) (nat_le (length text) most) parts.0).0 in
    let none = parse_digits own_numerals {E = ℕ} 64 text (Err 0) parsed parts.1 in
    let large : 2 ^ 64 ≤ decimal_of text = elim (cases_lt (decimal_of text) (2 ^ 64)) [
      | inl small ↦ absurd (none (omega arith, small))
      | inr large ↦ large
    ] in
    let past : within least greatest (decimal_of text) ≡ None = beyond least greatest (decimal_of text) (omega arith) in
    rw (digits, past) refl
