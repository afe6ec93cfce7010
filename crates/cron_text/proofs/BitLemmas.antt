-- The bits of ranges.
use Rattle.std.proofs.Common.{◌≡◌, ◌∙◌, ℕ, ◌+◌, ◌-◌, ◌*◌, ◌%◌, ◌^◌, ◌<◌, ◌≤◌, ◌&&◌, ◌||◌, max, nat_le, Bool, true, false, cond, List, [], ◌∷◌, refl, sym, arith}
use Rattle.std.proofs.Math.Nat.{pow-le-pow_right}
use Rattle.std.proofs.lemmas.Bool.Decides.{nat_tests}
use Rattle.std.proofs.lemmas.Nat.Bits.{bit_at_or, bit_at-zero, bit_at_mask_inside, bit_at_mask_below, bit_at_mask_above, same_from_bits}
use Rattle.std.specs.Int.{bit_at}
use Rattle.std.specs.Int.RustNames.{bit_or}
use Rattle.cron_text.specs.Field.{AreBitsOf, is_held}
use Rattle.cron_text.specs.inside.Reader.{bits_between}

-- a power of two that fits 64 bits
pub power-fits : (k : ℕ) → k < 64 → 1 * 2 ^ k % 2 ^ 64 ≡ 2 ^ k
power-fits k small =
    let most : 2 ^ k ≤ 2 ^ 63 = pow-le-pow_right (omega arith) {i = k} {j = 63} (omega arith) in omega arith

-- the powers of the ends of a range are in order
pub powers-ordered : (first last : ℕ) → first ≤ last → 2 ^ first ≤ 2 ^ (last + 1)
powers-ordered first last ordered = pow-le-pow_right (omega arith) {i = first} {j = last + 1} (omega arith)

-- the range holds the value
abbrev holds : ℕ × ℕ → ℕ → Bool
holds span value = nat_le span.0 value && nat_le value span.1

-- a bit that is set where the test holds
abbrev bit : Bool → ℕ
bit test = cond test 1 0

bits_between-bit : (first last value : ℕ) → bit_at (bits_between (first, last)) value ≡ bit (holds (first, last) value)
unfolding bits_between
bits_between-bit first last value = go (nat_le first value) refl (nat_le value last) refl
  where
    go : (low : Bool) → nat_le first value ≡ low → (high : Bool) → nat_le value last ≡ high
        → bit_at (2 ^ (last + 1) - 2 ^ first) value ≡ bit (nat_le first value && nat_le value last)
    go false low high _ =
        let below : value < first = grind (arith, nat_tests) in rw low (bit_at_mask_below first (last + 1) value below)
    go true low false high =
        let above : last + 1 ≤ value = grind (arith, nat_tests) in rw (low, high) (bit_at_mask_above first (last + 1) value above)
    go true low true high =
        let from : first ≤ value = grind (arith, nat_tests) in
        let to : value < last + 1 = grind (arith, nat_tests) in
        rw (low, high) (bit_at_mask_inside first (last + 1) value from to)

-- a bit is set where one of two is
either : (one two : Bool) → max (bit one) (bit two) ≡ bit (one || two)
either true true = refl
either true false = refl
either false true = refl
either false false = refl

-- the number with the bits of these ranges set besides those it has
unfoldable pub with_bits : ℕ → List (ℕ × ℕ) → ℕ
with_bits bits [] = bits
with_bits bits (span ∷ spans) = with_bits (bit_or bits (bits_between span)) spans

with_bits-bit : (bits : ℕ) (spans : List (ℕ × ℕ)) (value : ℕ)
    → bit_at (with_bits bits spans) value ≡ max (bit_at bits value) (bit (is_held spans value))
unfolding with_bits
with_bits-bit bits [] value = omega arith
with_bits-bit bits (span ∷ spans) value =
    let joined = either (holds span value) (is_held spans value) in
    let both = bit_at_or bits (bits_between span) value in
    let here = bits_between-bit span.0 span.1 value in
    with_bits-bit (bit_or bits (bits_between span)) spans value ∙ rw (both, here, ← joined) (omega arith)

-- from no bits on these are the bits of the ranges
pub with_bits-spans : (spans : List (ℕ × ℕ)) → AreBitsOf spans (with_bits 0 spans)
with_bits-spans spans value = with_bits-bit 0 spans value ∙ rw (bit_at-zero value) (omega arith)

-- the bits of one range
pub bits_between-span : (low high : ℕ) → AreBitsOf ((low, high) ∷ []) (bits_between (low, high))
bits_between-span low high value = bits_between-bit low high value ∙ alone (holds (low, high) value)
  where
    alone : (test : Bool) → bit test ≡ bit (test || false)
    alone true = refl
    alone false = refl

-- the ranges have one number of bits
pub one_bits : (spans : List (ℕ × ℕ)) (one two : ℕ) → AreBitsOf spans one → AreBitsOf spans two → one ≡ two
one_bits spans one two first second = same_from_bits one two (λ value. first value ∙ sym (second value))
