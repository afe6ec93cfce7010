-- Marks: with which bytes their texts start.
use Rattle.std.proofs.Common.{◌≡◌, ℕ, zero, suc, ◌+◌, ◌-◌, ◌*◌, ◌/◌, ◌^◌, ◌<◌, ◌≤◌, Bool, true, false, List, [], ◌∷◌, ◌++◌, Option, Some, None, length, take, drop, replicate, sym, ap, subst, ◌∙◌, refl, arith, append_assoc, length-append}
use Rattle.std.specs.Prelude.{◌&&◌, ◌↔◌, IfNone, IfSome, IsTrue, fold, is_some, nat_le, slice_index}
use Rattle.std.proofs.Math.Nat.{le-div_iff_mul-le, mul_assoc, mul-le-mul_right, pow-succ'}
use Rattle.std.proofs.Math.Seq.{take-append_seam}
use Rattle.std.proofs.lemmas.Bool.{and_from, and_parts}
use Rattle.std.proofs.lemmas.Bool.Decides.{nat_tests}
use Rattle.std.proofs.lemmas.List.{append-nil, length-replicate, take-append-drop, take-append-le, take-take}
use Rattle.std.proofs.lemmas.List.Folds.{list_all-append}
use Rattle.std.proofs.lemmas.List.Sums.{fold-append}
use Rattle.std.proofs.lemmas.Nat.{pow_pos}
use Rattle.text_reader.specs.HexDigits.{SpellsNumber, digits_of}
use Rattle.text_reader.specs.HexValues.{are_digits, digit_value, is_digit, value_of_digits}
use Rattle.text_reader.proofs.DigitLemmas.{one_number, power_of_two}
use Rattle.text_reader.proofs.EightDigits.{digits_spelled, spelled_eight}
use Rattle.text_reader.proofs.ValueLemmas.{digits_spell, spelled_digits, value_spelled, zeros_digits}
use Rattle.cron_session.specs.Mark.{BeginsMark, IsLongestStart, IsMarkText}

-- with digits after it a number is no less than with zeros in their place
fold_grows : (number : ℕ) (digits : List ℕ) → number * 16 ^ length digits ≤ fold (λ value byte. value * 16 + digit_value byte) number digits
fold_grows number [] = omega arith
fold_grows number (byte ∷ later) =
    let moved : number * 16 ^ suc (length later) ≡ number * 16 * 16 ^ length later = ap (λ p. number * p) (pow-succ' 16 (length later))
    ∙ sym (mul_assoc number 16 (16 ^ length later)) in
    let less : number * 16 * 16 ^ length later ≤ (number * 16 + digit_value byte) * 16 ^ length later =
    mul-le-mul_right (16 ^ length later) (omega arith) in
    let more : (number * 16 + digit_value byte) * 16 ^ length later ≤ fold (λ value byte. value * 16 + digit_value byte)
    (number * 16 + digit_value byte) later = fold_grows (number * 16 + digit_value byte) later in
    omega (arith, moved, less, more)

-- with zeros it is that
fold_zeros : (number count : ℕ) → fold (λ value byte. value * 16 + digit_value byte) number (replicate count 48) ≡ number * 16 ^ count
fold_zeros number zero = omega arith
fold_zeros number (suc count) =
    let here : number * 16 + digit_value 48 ≡ number * 16 = omega arith in
    ap (λ n. fold (λ value byte. value * 16 + digit_value byte) n (replicate count 48)) here
    ∙ fold_zeros (number * 16) count
    ∙ mul_assoc number 16 (16 ^ count)
    ∙ ap (λ p. number * p) (sym (pow-succ' 16 count))

-- digits start a mark where they are of a minute of the clock with zeros after them
mark_from : (bytes : List ℕ) (number : ℕ) → SpellsNumber bytes number → length bytes ≤ 8
    → number * 16 ^ (8 - length bytes) ≤ 4222846079 → BeginsMark bytes
mark_from bytes number spelled few low =
    let count : ℕ = 8 - length bytes in
    let zeros : List ℕ = replicate count 48 in
    let minute : ℕ = number * 16 ^ count in
    let digits : are_digits (bytes ++ zeros) ≡ true = list_all-append is_digit bytes zeros
    ∙ and_from (are_digits bytes) (are_digits zeros) (spelled_digits bytes number spelled) (zeros_digits count) in
    let value : value_of_digits (bytes ++ zeros) ≡ minute = fold-append (λ value byte. value * 16 + digit_value byte) 0 bytes zeros
    ∙ ap (λ n. fold (λ value byte. value * 16 + digit_value byte) n zeros) (value_spelled bytes number spelled) ∙ fold_zeros number count in
    let whole : SpellsNumber (bytes ++ zeros) minute = subst (SpellsNumber (bytes ++ zeros)) value (digits_spell (bytes ++ zeros) digits) in
    let counted : length (bytes ++ zeros) ≡ 8 = omega (arith, length-append bytes zeros, length-replicate {A = ℕ} count 48) in
    let is : bytes ++ zeros ≡ digits_of minute = (spelled_eight (bytes ++ zeros) minute counted whole).1 in
    record {
      minute = minute;
      minute_is = low;
      rest = zeros ++ 10 ∷ [];
      text = ap (λ list. list ++ 10 ∷ []) (sym is) ∙ append_assoc bytes zeros (10 ∷ []);
    }

-- the digits of a mark that starts with few bytes start with them
digits_begun : (bytes : List ℕ) (mark : BeginsMark bytes) → length bytes ≤ 8
    → digits_of mark.minute ≡ bytes ++ drop (length bytes) (digits_of mark.minute)
digits_begun bytes mark few =
    let digits : List ℕ = digits_of mark.minute in
    let taken : take (length bytes) digits ≡ bytes = sym (take-append-le (length bytes) digits (10 ∷ []) few)
    ∙ ap (take (length bytes)) mark.text ∙ take-append_seam bytes mark.rest in
    sym (take-append-drop (length bytes) digits) ∙ ap (λ list. list ++ drop (length bytes) digits) taken

-- what starts a mark are digits, and of a minute of the clock with zeros after them
mark_spells : (bytes : List ℕ) → length bytes ≤ 8 → BeginsMark bytes
    → SpellsNumber bytes (value_of_digits bytes) × (value_of_digits bytes * 16 ^ (8 - length bytes) ≤ 4222846079)
mark_spells bytes few mark =
    let digits : List ℕ = digits_of mark.minute in
    let after : List ℕ = drop (length bytes) digits in
    let begun : digits ≡ bytes ++ after = digits_begun bytes mark few in
    let low : mark.minute ≤ 4222846079 = mark.minute_is in
    let spelled : SpellsNumber digits mark.minute = digits_spelled mark.minute (omega arith) in
    let all : are_digits (bytes ++ after) ≡ true =
    subst (λ list. are_digits list ≡ true) begun (spelled_digits digits mark.minute spelled) in
    let mine : are_digits bytes ≡ true =
    (and_parts (are_digits bytes) (are_digits after) (sym (list_all-append is_digit bytes after) ∙ all)).0 in
    let value : fold (λ value byte. value * 16 + digit_value byte) (value_of_digits bytes) after ≡ mark.minute =
    sym (fold-append (λ value byte. value * 16 + digit_value byte) 0 bytes after) ∙ ap value_of_digits (sym begun)
    ∙ value_spelled digits mark.minute spelled in
    let lengths : 8 ≡ length bytes + length after = ap length begun ∙ length-append bytes after in
    let counted : length after ≡ 8 - length bytes = omega arith in
    let grows : value_of_digits bytes * 16 ^ length after
    ≤ fold (λ value byte. value * 16 + digit_value byte) (value_of_digits bytes) after = fold_grows (value_of_digits bytes) after in
    let less : value_of_digits bytes * 16 ^ length after ≤ mark.minute =
    subst (λ n. value_of_digits bytes * 16 ^ length after ≤ n) value grows in
    let small : value_of_digits bytes * 16 ^ length after ≤ 4222846079 = omega (arith, less, low) in
    (digits_spell bytes mine, subst (λ count. value_of_digits bytes * 16 ^ count ≤ 4222846079) counted small)

-- what is no more than the first digits of a number is so with zeros after it, and the other way round
shifted : (number count : ℕ) → (number ≤ 4222846079 / 2 ^ (4 * count)) ↔ (number * 16 ^ count ≤ 4222846079)
shifted number count = subst (λ power. (number ≤ 4222846079 / 2 ^ (4 * count)) ↔ (number * power ≤ 4222846079)) (sym (power_of_two count))
    (le-div_iff_mul-le (pow_pos (4 * count)))

test_le : (first second : ℕ) → IsTrue (nat_le first second) ↔ (first ≤ second)
test_le first second = (λ is. grind (arith, nat_tests), λ less. grind (arith, nat_tests))

-- the test of digits
pub digits_start : (bytes : List ℕ) (number : ℕ) → SpellsNumber bytes number → length bytes ≤ 8
    → IsTrue (nat_le number (4222846079 / 2 ^ (4 * (8 - length bytes)))) ↔ BeginsMark bytes
digits_start bytes number spelled few = (
  λ is. from ((test_le number (4222846079 / 2 ^ (4 * (8 - length bytes)))).0 is),
  λ mark. (test_le number (4222846079 / 2 ^ (4 * (8 - length bytes)))).1 (to mark),
)
  where
    from : number ≤ 4222846079 / 2 ^ (4 * (8 - length bytes)) → BeginsMark bytes
    from less = mark_from bytes number spelled few ((shifted number (8 - length bytes)).0 less)

    to : BeginsMark bytes → number ≤ 4222846079 / 2 ^ (4 * (8 - length bytes))
    to mark =
        let same : value_of_digits bytes ≡ number = value_spelled bytes number spelled in
        (shifted number (8 - length bytes)).1 (subst (λ n. n * 16 ^ (8 - length bytes) ≤ 4222846079) same (mark_spells bytes few mark).1)

pub never : {P : Type 0} → false ≡ true → P
never wrong = cc

-- what is no digits starts no mark
pub no_digits_start : (bytes : List ℕ) → ((number : ℕ) → ¬ (SpellsNumber bytes number)) → length bytes ≤ 8 → IsTrue false ↔ BeginsMark bytes
no_digits_start bytes none few = (never, λ mark. absurd (none (value_of_digits bytes) (mark_spells bytes few mark).0))

no_rest : (rest : List ℕ) → length rest ≡ 0 → rest ≡ []
no_rest [] none = refl
no_rest (first ∷ later) none = absurd (omega arith)

-- more than eight bytes start a mark where they are all of it
pub long_start : (bytes : List ℕ) (found : Option ℕ) → 8 < length bytes → IfSome found (IsMarkText bytes)
    → IfNone found ((minute : ℕ) → ¬ (IsMarkText bytes minute)) → IsTrue (is_some found) ↔ BeginsMark bytes
long_start bytes (Some minute) long is none =
    (λ _. record { minute = minute; minute_is = is.minute_is; rest = []; text = sym is.text_is ∙ sym (append-nil bytes) }, λ _. refl)
long_start bytes None long is none = (never, λ mark. absurd (none mark.minute (whole mark))) where
  whole : (mark : BeginsMark bytes) → IsMarkText bytes mark.minute
  whole mark =
      let lengths : 9 ≡ length bytes + length mark.rest = ap length mark.text ∙ length-append bytes mark.rest in
      let no_more : mark.rest ≡ [] = no_rest mark.rest (omega arith) in
      record { minute_is = mark.minute_is; text_is = sym (mark.text ∙ ap (λ rest. bytes ++ rest) no_more ∙ append-nil bytes) }

-- a start of what starts a mark starts it too
start_less : (bytes : List ℕ) (less more : ℕ) → less ≤ more → BeginsMark (take more bytes) → BeginsMark (take less bytes)
start_less bytes less more order mark = record {
  minute = mark.minute;
  minute_is = mark.minute_is;
  rest = drop less (take more bytes) ++ mark.rest;
  text = mark.text
      ∙ ap (λ list. list ++ mark.rest) (sym (take-append-drop less (take more bytes))
      ∙ ap (λ list. list ++ drop less (take more bytes)) (take-take less more bytes order))
      ∙ append_assoc (take less bytes) (drop less (take more bytes)) mark.rest;
}

-- the longest start is the one that can't be made longer
pub longest_so : (bytes : List ℕ) (place : ℕ) → place < length bytes → BeginsMark (take place bytes)
    → ¬ (BeginsMark (take (place + 1) bytes)) → IsLongestStart bytes place
longest_so bytes place inside begins no_more = record {
  within = omega arith;
  begins = begins;
  longest = λ more within mark. by_order more mark (nat_le more place) refl;
} where
  by_order : (more : ℕ) → BeginsMark (take more bytes) → (few : Bool) → nat_le more place ≡ few → more ≤ place
  by_order more mark true is = grind (arith, nat_tests)
  by_order more mark false is =
      let longer : place + 1 ≤ more = grind (arith, nat_tests) in
      absurd (no_more (start_less bytes (place + 1) more longer mark))

-- eight digits of a minute of the clock
pub eight_of : (digits : List ℕ) (number : ℕ) → length digits ≡ 8 → SpellsNumber digits number → digits ≡ digits_of number
eight_of digits number counted spelled = (spelled_eight digits number counted spelled).1

pub spelled_of : (digits : List ℕ) (minute : ℕ) → minute ≤ 4222846079 → digits ≡ digits_of minute → SpellsNumber digits minute
spelled_of digits minute low is = subst (λ list. SpellsNumber list minute) (sym is) (digits_spelled minute (omega arith))

-- digits that spell a number above the last minute are of no minute
pub too_late : (digits : List ℕ) (number minute : ℕ) → SpellsNumber digits number → 4222846079 < number → minute ≤ 4222846079
    → digits ≡ digits_of minute → ⊥
too_late digits number minute spelled late low is =
    let same : number ≡ minute = one_number digits number minute spelled (spelled_of digits minute low is) in
    absurd (omega arith)

-- and so is the text of a mark
pub text_of : (digits bytes : List ℕ) (found : Option ℕ) → bytes ≡ digits ++ 10 ∷ []
    → IfSome found (λ minute. (minute ≤ 4222846079) × (digits ≡ digits_of minute)) → IfSome found (IsMarkText bytes)
text_of digits bytes (Some minute) is found = record { minute_is = found.0; text_is = is ∙ ap (λ list. list ++ 10 ∷ []) found.1 }
text_of digits bytes None is found = tt

-- nine bytes, of which the last is a newline
pub nine_bytes : (bytes : List ℕ) → 9 ≤ length bytes → length bytes < 10 → slice_index bytes 8 ≡ 10
    → bytes ≡ slice_index bytes 0 ∷ slice_index bytes 1 ∷ slice_index bytes 2 ∷ slice_index bytes 3 ∷ slice_index bytes 4
    ∷ slice_index bytes 5 ∷ slice_index bytes 6 ∷ slice_index bytes 7 ∷ 10 ∷ []
nine_bytes [] low high last = absurd (omega arith)
nine_bytes (a ∷ []) low high last = absurd (omega arith)
nine_bytes (a ∷ b ∷ []) low high last = absurd (omega arith)
nine_bytes (a ∷ b ∷ c ∷ []) low high last = absurd (omega arith)
nine_bytes (a ∷ b ∷ c ∷ d ∷ []) low high last = absurd (omega arith)
nine_bytes (a ∷ b ∷ c ∷ d ∷ e ∷ []) low high last = absurd (omega arith)
nine_bytes (a ∷ b ∷ c ∷ d ∷ e ∷ f ∷ []) low high last = absurd (omega arith)
nine_bytes (a ∷ b ∷ c ∷ d ∷ e ∷ f ∷ g ∷ []) low high last = absurd (omega arith)
nine_bytes (a ∷ b ∷ c ∷ d ∷ e ∷ f ∷ g ∷ h ∷ []) low high last = absurd (omega arith)
nine_bytes (a ∷ b ∷ c ∷ d ∷ e ∷ f ∷ g ∷ h ∷ i ∷ []) low high last = ap (λ byte. a ∷ b ∷ c ∷ d ∷ e ∷ f ∷ g ∷ h ∷ byte ∷ []) last
nine_bytes (a ∷ b ∷ c ∷ d ∷ e ∷ f ∷ g ∷ h ∷ i ∷ j ∷ more) low high last = absurd (omega arith)
