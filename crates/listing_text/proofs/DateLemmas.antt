-- Texts of a date by their places.
use Rattle.std.proofs.Common.{◌≡◌, ℕ, ◌+◌, ◌/◌, ◌%◌, ◌≤◌, List, [], ◌∷◌, length, get_or, arith, refl, ℤ, pos, negsuc, ◌≤ℤ◌}
use Rattle.std.proofs.lemmas.Slice.Eq.{text_from_reads}
use Rattle.std.proofs.lemmas.Fmt.{decimal_step, decimal_digit}
use Rattle.std.proofs.lemmas.Int.{ints}
use Rattle.std.proofs.Math.IntN.{nat_abs}
use Rattle.std.specs.Fmt.{decimal, signed_decimal}

-- three bytes by their places
pub three_items : (bytes : List ℕ) → length bytes ≡ 3 → bytes ≡ get_or bytes 0 0 ∷ get_or bytes 1 0 ∷ get_or bytes 2 0 ∷ []
three_items bytes counted = text_from_reads bytes _ counted (refl, (refl, (refl, tt)))

-- four bytes by their places
pub four_items : (bytes : List ℕ) → length bytes ≡ 4
    → bytes ≡ get_or bytes 0 0 ∷ get_or bytes 1 0 ∷ get_or bytes 2 0 ∷ get_or bytes 3 0 ∷ []
four_items bytes counted = text_from_reads bytes _ counted (refl, (refl, (refl, (refl, tt))))

-- a number of four digits by its places
pub decimal-four : (n : ℕ) → 1000 ≤ n → n ≤ 9999
    → decimal n ≡ (48 + n / 1000) ∷ (48 + n / 100 % 10) ∷ (48 + n / 10 % 10) ∷ (48 + n % 10) ∷ []
decimal-four n low high =
    let hundreds : n / 10 / 10 ≡ n / 100 = omega arith in
    let thousands : n / 100 / 10 ≡ n / 1000 = omega arith in
    let first = decimal_digit (n / 1000) (omega arith) in
    let second = decimal_step (n / 100) (omega arith) (omega arith) in
    let third = decimal_step (n / 10) (omega arith) (omega arith) in
    let last = decimal_step n (omega arith) (omega arith) in
    rw (last, third, hundreds, second, thousands, first) refl

-- a year that is no negative number is printed as the number
pub decimal-year : (year : ℤ) → pos 1000 ≤ℤ year → decimal (nat_abs year) ≡ signed_decimal year
decimal-year (pos n) low = refl
decimal-year (negsuc n) low = absurd (omega (arith, ints))
