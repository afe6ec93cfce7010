-- Numbers of eight digits: their digits spell them, and nothing else of that length does.
use Rattle.std.proofs.Common.{◌≡◌, ℕ, zero, suc, ◌-◌, ◌<◌, ◌^◌, List, length, refl, subst, sym, arith}
use Rattle.std.specs.Prelude.{slice_index}
use Rattle.text_reader.specs.HexDigits.{SpellsNumber, byte_at, digits_of}
use Rattle.text_reader.proofs.DigitLemmas.{one_spelling}

-- each of them is at its place
each_place : (number place : ℕ) → place < 8 → slice_index (digits_of number) place ≡ byte_at number (8 - 1 - place)
each_place number zero inside = refl
each_place number (suc zero) inside = refl
each_place number (suc (suc zero)) inside = refl
each_place number (suc (suc (suc zero))) inside = refl
each_place number (suc (suc (suc (suc zero)))) inside = refl
each_place number (suc (suc (suc (suc (suc zero))))) inside = refl
each_place number (suc (suc (suc (suc (suc (suc zero)))))) inside = refl
each_place number (suc (suc (suc (suc (suc (suc (suc zero))))))) inside = refl
each_place number (suc (suc (suc (suc (suc (suc (suc (suc more)))))))) inside = absurd (omega arith)

-- the digits of a number spell it
pub digits_spelled : (number : ℕ) → number < 16 ^ 8 → SpellsNumber (digits_of number) number
digits_spelled number fits = record { fits = fits; each = each_place number }

pub eight_spelled : (bytes : List ℕ) (number : ℕ) → number < 16 ^ 8 → bytes ≡ digits_of number
    → (length bytes ≡ 8) × SpellsNumber bytes number
eight_spelled bytes number fits is =
    subst (λ (list : List ℕ). (length list ≡ 8) × SpellsNumber list number) (sym is) (refl, digits_spelled number fits)

-- and eight bytes that spell a number are its digits
pub spelled_eight : (bytes : List ℕ) (number : ℕ) → length bytes ≡ 8 → SpellsNumber bytes number
    → (number < 16 ^ 8) × (bytes ≡ digits_of number)
spelled_eight bytes number counted spelled =
    let fits : number < 16 ^ 8 = subst (λ n. number < 16 ^ n) counted spelled.fits in
    (fits, one_spelling bytes (digits_of number) number counted spelled (digits_spelled number fits))
