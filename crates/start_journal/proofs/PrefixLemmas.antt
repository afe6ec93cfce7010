-- How far the bytes of a slot are those of some mark's slot.
use Rattle.std.proofs.Common.{◌≡◌, ◌⊎◌, ℕ, suc, ◌+◌, ◌-◌, ◌*◌, ◌/◌, ◌^◌, ◌<◌, ◌≤◌, Bool, true, false, List, [], ◌∷◌, length, sym, ap, ◌∙◌, refl, inl, inr, arith}
use Rattle.std.specs.Prelude.{unsigned_abs, ◌==◌, ◌&&◌, ◌||◌, nat_le, nat_lt, if◌then◌else◌}
use Rattle.std.proofs.Math.Nat.{eq-or-lt_of_le}
use Rattle.std.proofs.lemmas.Bool.Decides.{nat_tests}
use Rattle.text_reader.specs.HexDigits.{SpellsNumber}
use Rattle.text_reader.proofs.DigitLemmas.{power_of_two}
use Rattle.start_journal.specs.SlotBytes.{is_number_prefix, is_second_prefix, may_stand, right_prefix, standing_from}
use Rattle.text_reader.specs.HexValues.{are_digits, are_zeros, value_of_digits}
use Rattle.text_reader.proofs.ValueLemmas.{digits_spell, spelled_digits, value_spelled}
use Rattle.host_calls.specs.declared.clock_seconds.TheConstants.{LAST_SECOND}

-- bytes that spell no number are not all digits
not_digits : (bytes : List ℕ) → ((number : ℕ) → ¬ (SpellsNumber bytes number)) → are_digits bytes ≡ false
not_digits bytes none = by_test (are_digits bytes) refl where
  by_test : (digits : Bool) → are_digits bytes ≡ digits → are_digits bytes ≡ false
  by_test true digits = absurd (none (value_of_digits bytes) (digits_spell bytes digits))
  by_test false digits = digits

-- the first digits of a number of a job
pub number_begun : (kind number : ℕ) (digits : List ℕ) → (kind ≡ 66 → ⊥) → SpellsNumber digits number
    → is_number_prefix kind digits ≡ (nat_lt (length digits) 8 || nat_le 1 number)
number_begun kind number digits other spelled =
    let kinds : (kind == 66) ≡ false = grind (arith, nat_tests) in
    ap (λ b. if b then are_zeros digits else (are_digits digits && (nat_lt (length digits) 8 || nat_le 1 (value_of_digits digits)))) kinds
    ∙ ap (λ b. b && (nat_lt (length digits) 8 || nat_le 1 (value_of_digits digits))) (spelled_digits digits number spelled)
    ∙ ap (λ n. nat_lt (length digits) 8 || nat_le 1 n) (value_spelled digits number spelled)

pub no_number_begun : (kind : ℕ) (digits : List ℕ) → (kind ≡ 66 → ⊥) → ((number : ℕ) → ¬ (SpellsNumber digits number))
    → false ≡ is_number_prefix kind digits
no_number_begun kind digits other none =
    let kinds : (kind == 66) ≡ false = grind (arith, nat_tests) in
    sym
    (ap (λ b. if b then are_zeros digits else (are_digits digits && (nat_lt (length digits) 8 || nat_le 1 (value_of_digits digits)))) kinds
    ∙ ap (λ b. b && (nat_lt (length digits) 8 || nat_le 1 (value_of_digits digits))) (not_digits digits none))

-- the first digits of a second
abbrev pub second_digits : List ℕ → Bool
second_digits digits = are_digits digits && nat_le (value_of_digits digits) (unsigned_abs LAST_SECOND / 16 ^ (16 - length digits))

has_second : (kind : ℕ) → ((kind ≡ 83 → ⊥) × (kind ≡ 66)) ⊎ (kind ≡ 83) → (kind == 83 || kind == 66) ≡ true
has_second kind either = grind (arith, nat_tests)

second_kind : (kind : ℕ) (digits : List ℕ) → ((kind ≡ 83 → ⊥) × (kind ≡ 66)) ⊎ (kind ≡ 83)
    → is_second_prefix kind digits ≡ second_digits digits
second_kind kind digits either = ap (λ b. if b then second_digits digits else are_zeros digits) (has_second kind either)

pub second_begun : (kind prefix : ℕ) (digits : List ℕ) → ((kind ≡ 83 → ⊥) × (kind ≡ 66)) ⊎ (kind ≡ 83) → SpellsNumber digits prefix
    → nat_le prefix (unsigned_abs LAST_SECOND / 2 ^ (4 * (16 - length digits))) ≡ is_second_prefix kind digits
second_begun kind prefix digits either spelled =
    sym (second_kind kind digits either
    ∙ ap (λ b. b && nat_le (value_of_digits digits) (unsigned_abs LAST_SECOND / 16 ^ (16 - length digits)))
    (spelled_digits digits prefix spelled)
    ∙ ap (λ n. nat_le n (unsigned_abs LAST_SECOND / 16 ^ (16 - length digits))) (value_spelled digits prefix spelled)
    ∙ ap (λ power. nat_le prefix (unsigned_abs LAST_SECOND / power)) (power_of_two (16 - length digits)))

pub no_second_begun : (kind : ℕ) (digits : List ℕ) → ((kind ≡ 83 → ⊥) × (kind ≡ 66)) ⊎ (kind ≡ 83)
    → ((number : ℕ) → ¬ (SpellsNumber digits number)) → false ≡ is_second_prefix kind digits
no_second_begun kind digits either none =
    sym (second_kind kind digits either
    ∙ ap (λ b. b && nat_le (value_of_digits digits) (unsigned_abs LAST_SECOND / 16 ^ (16 - length digits))) (not_digits digits none))

-- the first bytes may be in their places, and the next one may not
standing : (slot : List ℕ) (count place : ℕ) (later : List ℕ) → place ≤ count → count ≤ place + length later → ((at : ℕ) → at < count
    → may_stand slot at ≡ true) → (count < place + length later → may_stand slot count ≡ false) → standing_from slot place later ≡ count
standing slot count place [] from to each next = let same : place ≡ count = omega arith in same
standing slot count place (byte ∷ later) from to each next = elim (eq-or-lt_of_le from) [
  | inl same ↦ ap (λ b. if b then standing_from slot (suc place) later else place) (ap (may_stand slot) same ∙ next (omega arith)) ∙ same
  | inr before ↦
      ap (λ b. if b then standing_from slot (suc place) later else place) (each place before)
      ∙ standing slot count (suc place) later (omega arith) (omega arith) each (λ inside. next (omega arith))
]

pub prefix_is : (slot : List ℕ) (count : ℕ) → count ≤ length slot → ((at : ℕ) → at < count → may_stand slot at ≡ true)
    → (count < length slot → may_stand slot count ≡ false) → count ≡ right_prefix slot
unfolding right_prefix
prefix_is slot count inside each next = sym (standing slot count 0 slot (omega arith) (omega arith) each (λ more. next (omega arith)))
