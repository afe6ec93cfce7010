-- Right sequence files, and the places where others break their form.
use Rattle.std.proofs.Common.{◌≡◌, ℕ, zero, suc, ◌+◌, ◌-◌, ◌*◌, ◌/◌, ◌^◌, ◌<◌, ◌≤◌, Bool, true, false, List, [], ◌∷◌, ◌++◌, length, take, replicate, sym, ap, subst, ◌∙◌, refl, inl, inr, arith, length-append, get_or-take}
use Rattle.std.specs.Prelude.{◌==◌, ◌&&◌, ◌⊎◌, nat_le, nat_lt, max, if◌then◌else◌, slice_index, slice_get, Option, Some, None, IfNone}
use Rattle.std.specs.Option.{option_or}
use Rattle.std.specs.Int.{is_in_range}
use Rattle.std.proofs.Math.Nat.{eq-or-lt_of_le}
use Rattle.std.proofs.lemmas.Bool.Decides.{nat_tests}
use Rattle.std.proofs.lemmas.Bool.{cases_lt}
use Rattle.std.proofs.lemmas.List.{ext_get_or, get_or-append_right, get_or-replicate, length-replicate, length-take, length-take-le, take_all, take_at}
use Rattle.std.proofs.Math.Seq.{get_or-append_seam}
use Rattle.std.proofs.lemmas.Nat.{mod_below}
use Rattle.std.proofs.Math.ListN.{get_or-append}
use Rattle.text_reader.specs.HexDigits.{SpellsNumber, digit_at, digit_byte}
use Rattle.text_reader.proofs.DigitLemmas.{read_more}
use Rattle.text_reader.proofs.ValueLemmas.{digit_fits}
use Rattle.sequence_file.specs.Places.{IsFittingPrefix, fits_at}
use Rattle.text_reader.specs.HexValues.{is_digit}
use Rattle.sequence_file.specs.Sequence.{HasSequencePrefix, IsFaultAt, SpellsIn, SpellsSequence}
use Rattle.spool_model.specs.Numbers.{number_digits}

-- the tests of the places, at each of them
fits_digit : (new_form : Bool) (place byte : ℕ) → place < number_digits new_form → fits_at new_form place byte ≡ is_digit byte
fits_digit new_form place byte early =
    let test : nat_lt place (number_digits new_form) ≡ true = grind (arith, nat_tests) in
    ap (λ b. if b then is_digit byte else (place == number_digits new_form && byte == 10)) test

fits_newline : (new_form : Bool) (byte : ℕ) → fits_at new_form (number_digits new_form) byte ≡ true → byte ≡ 10
fits_newline true byte fits = grind (arith, nat_tests)
fits_newline false byte fits = grind (arith, nat_tests)

fits_newline_byte : (new_form : Bool) → fits_at new_form (number_digits new_form) 10 ≡ true
fits_newline_byte true = refl
fits_newline_byte false = refl

-- nothing fits after the newline
fits_none : (new_form : Bool) (byte : ℕ) → fits_at new_form (1 + number_digits new_form) byte ≡ false
fits_none true byte = refl
fits_none false byte = refl

-- each byte of a right file fits its place
spelled_fits : (new_form : Bool) (bytes : List ℕ) (number place : ℕ) → SpellsIn new_form bytes number → place < 1 + number_digits new_form
    → fits_at new_form place (slice_index bytes place) ≡ true
spelled_fits new_form bytes number place spelled inside =
    let at_most : place ≤ number_digits new_form = omega arith in
    let long : number_digits new_form ≤ length bytes = omega (arith, spelled.counted) in
    let prefix : length (take (number_digits new_form) bytes) ≡ number_digits new_form =
    length-take-le (number_digits new_form) bytes long in
    elim (eq-or-lt_of_le at_most) [
      | inl same ↦ let last : fits_at new_form (number_digits new_form) (slice_index bytes (number_digits new_form)) ≡ true =
          ap (fits_at new_form (number_digits new_form)) spelled.newline ∙ fits_newline_byte new_form in
          subst (λ at. fits_at new_form at (slice_index bytes at) ≡ true) (sym same) last
      | inr early ↦
          let digit : slice_index bytes place ≡ digit_byte (digit_at number (length (take (number_digits new_form) bytes) - 1 - place)) =
          sym (get_or-take (number_digits new_form) bytes place 0 early) ∙ spelled.digits.each place (omega arith) in
          fits_digit new_form place (slice_index bytes place) early ∙ ap is_digit digit
          ∙ digit_fits _ (mod_below (number / 16 ^ (length (take (number_digits new_form) bytes) - 1 - place)) 16 (omega arith))
    ]

-- a byte that is a digit is that of one
digit_found : (byte : ℕ) → is_digit byte ≡ true → (digit : ℕ) × (digit < 16) × (byte ≡ digit_byte digit)
digit_found byte is = by_range (is_in_range 48 57 byte) refl where
  by_range : (low : Bool) → is_in_range 48 57 byte ≡ low → (digit : ℕ) × (digit < 16) × (byte ≡ digit_byte digit)
  by_range true range =
      let from : 48 ≤ byte = grind (arith, nat_tests) in
      let to : byte ≤ 57 = grind (arith, nat_tests) in
      (byte - 48, omega arith, grind (arith, nat_tests))
  by_range false range =
      let from : 97 ≤ byte = grind (arith, nat_tests) in
      let to : byte ≤ 102 = grind (arith, nat_tests) in
      (byte - 87, omega arith, grind (arith, nat_tests))

-- bytes that are all digits spell a number
digits_spell : (bytes : List ℕ) (count : ℕ) → count ≤ length bytes
    → ((place : ℕ) → place < count → is_digit (slice_index bytes place) ≡ true) → (number : ℕ) × SpellsNumber (take count bytes) number
digits_spell bytes zero inside each = (0, record { fits = omega arith; each = λ place none. absurd (omega arith) })
digits_spell bytes (suc count) inside each =
    let before : (number : ℕ) × SpellsNumber (take count bytes) number =
    digits_spell bytes count (omega arith) (λ place early. each place (omega arith)) in
    let digit : (digit : ℕ) × (digit < 16) × (slice_index bytes count ≡ digit_byte digit) =
    digit_found (slice_index bytes count) (each count (omega arith)) in
    let one : count + 1 ≡ suc count = omega arith in (
      before.0 * 16 + digit.0,
      subst (λ some. SpellsNumber (take some bytes) (before.0 * 16 + digit.0)) one
          (read_more bytes count before.0 digit.0 before.1 (omega arith) digit.1 digit.2),
    )

-- no more than the digits and the newline fit
few_fit : (new_form : Bool) (bytes : List ℕ) (count : ℕ) → IsFittingPrefix new_form bytes count → count ≤ 1 + number_digits new_form
few_fit new_form bytes count fitting = by_test (nat_le count (1 + number_digits new_form)) refl where
  by_test : (few : Bool) → nat_le count (1 + number_digits new_form) ≡ few → count ≤ 1 + number_digits new_form
  by_test true is = grind (arith, nat_tests)
  by_test false is =
      let more : 1 + number_digits new_form < count = grind (arith, nat_tests) in
      let impossible : false ≡ true = sym (fits_none new_form (slice_index bytes (1 + number_digits new_form)))
      ∙ fitting.each (1 + number_digits new_form) more in
      cc

-- the prefix of the bytes, and zeros up to so many digits
filled : ℕ → List ℕ → ℕ → List ℕ
filled digits bytes count = take digits (take count bytes ++ replicate digits 48)

filled_counted : (digits : ℕ) (bytes : List ℕ) (count : ℕ) → length (filled digits bytes count) ≡ digits
unfolding filled
filled_counted digits bytes count = length-take-le digits (take count bytes ++ replicate digits 48)
    (omega (arith, length-append (take count bytes) (replicate digits 48), length-replicate {A = ℕ} digits 48))

-- it has the bytes of the prefix
filled_prefix : (digits : ℕ) (bytes : List ℕ) (count place : ℕ) → count ≤ length bytes → place < digits → place < count
    → slice_index (filled digits bytes count) place ≡ slice_index bytes place
unfolding filled
filled_prefix digits bytes count place inside early before =
    let counted : length (take count bytes) ≡ count = length-take-le count bytes inside in
    get_or-take digits (take count bytes ++ replicate digits 48) place 0 early
    ∙ get_or-append (take count bytes) (replicate digits 48) 0 place (omega arith)
    ∙ get_or-take count bytes place 0 before

-- and zeros after them
filled_rest : (digits : ℕ) (bytes : List ℕ) (count place : ℕ) → count ≤ length bytes → place < digits → count ≤ place
    → slice_index (filled digits bytes count) place ≡ 48
unfolding filled
filled_rest digits bytes count place inside early after =
    let counted : length (take count bytes) ≡ count = length-take-le count bytes inside in
    get_or-take digits (take count bytes ++ replicate digits 48) place 0 early
    ∙ get_or-append_right (take count bytes) (replicate digits 48) count place 0 counted after
    ∙ get_or-replicate digits (place - count) 48 0 (omega arith)

-- so all of it are digits
filled_digits : (new_form : Bool) (bytes : List ℕ) (count : ℕ) → IsFittingPrefix new_form bytes count → (place : ℕ)
    → place < number_digits new_form → is_digit (slice_index (filled (number_digits new_form) bytes count) place) ≡ true
filled_digits new_form bytes count fitting place early = elim (cases_lt place count) [
  | inl before ↦ ap is_digit (filled_prefix (number_digits new_form) bytes count place fitting.inside early before)
      ∙ sym (fits_digit new_form place (slice_index bytes place) early) ∙ fitting.each place before
  | inr after ↦ ap is_digit (filled_rest (number_digits new_form) bytes count place fitting.inside early after)
]

-- digits and a newline
pub digits_and_newline : (new_form : Bool) (digits : List ℕ) (number : ℕ) → length digits ≡ number_digits new_form
    → SpellsNumber digits number → SpellsIn new_form (digits ++ 10 ∷ []) number
digits_and_newline new_form digits number counted spelled =
    let prefix : take (number_digits new_form) (digits ++ 10 ∷ []) ≡ digits = take_at digits (10 ∷ []) (number_digits new_form) counted in
    let last : slice_index (digits ++ 10 ∷ []) (number_digits new_form) ≡ 10 =
    subst (λ at. slice_index (digits ++ 10 ∷ []) at ≡ 10) counted (get_or-append_seam digits 10 [] 0) in
    record {
      counted = simp length-append (omega arith);
      digits = subst (λ some. SpellsNumber some number) (sym prefix) spelled;
      newline = last;
    }

-- bytes that fit are the prefix of a right file
right_prefix : (new_form : Bool) (bytes : List ℕ) (count : ℕ) → IsFittingPrefix new_form bytes count → HasSequencePrefix bytes count
right_prefix new_form bytes count fitting =
    let digits : List ℕ = filled (number_digits new_form) bytes count in
    let counted : length digits ≡ number_digits new_form = filled_counted (number_digits new_form) bytes count in
    let right : List ℕ = digits ++ 10 ∷ [] in
    let number : (number : ℕ) × SpellsNumber (take (number_digits new_form) digits) number =
    digits_spell digits (number_digits new_form) (omega arith) (filled_digits new_form bytes count fitting) in
    let spelled : SpellsIn new_form right number.0 = digits_and_newline new_form digits number.0 counted
    (subst (λ some. SpellsNumber some number.0) (take_all (number_digits new_form) digits (omega arith)) number.1) in
    let few : count ≤ 1 + number_digits new_form = few_fit new_form bytes count fitting in
    let right_counted : length (take count right) ≡ count = length-take-le count right (omega (arith, spelled.counted)) in
    let same : (place : ℕ) → place < count → slice_index right place ≡ slice_index bytes place =
    λ place before. elim (cases_lt place (number_digits new_form)) [
      | inl early ↦ get_or-append digits (10 ∷ []) 0 place (omega arith)
          ∙ filled_prefix (number_digits new_form) bytes count place fitting.inside early before
      | inr late ↦
          let last : place ≡ number_digits new_form = omega arith in
          let newline : slice_index bytes (number_digits new_form) ≡ 10 = fits_newline new_form (slice_index bytes (number_digits new_form))
          (subst (λ at. fits_at new_form at (slice_index bytes at) ≡ true) last (fitting.each place before)) in
          ap (slice_index right) last ∙ spelled.newline ∙ sym newline ∙ sym (ap (slice_index bytes) last)
    ] in
    record {
      number = number.0;
      right = right;
      spelled = (new_form, spelled);
      inside = fitting.inside;
      prefix = ext_get_or 0 (take count right) (take count bytes) (right_counted ∙ sym (length-take-le count bytes fitting.inside))
          (λ place inside. get_or-take count right place 0 (omega arith) ∙ same place (omega arith)
          ∙ sym (get_or-take count bytes place 0 (omega arith)));
    }

-- no longer prefix is that of a right file of this form
longest_prefix : (new_form : Bool) (bytes right : List ℕ) (number count other : ℕ) → IsFittingPrefix new_form bytes count
    → SpellsIn new_form right number → other ≤ length bytes → take other right ≡ take other bytes → other ≤ count
longest_prefix new_form bytes right number count other fitting spelled inside prefix = by_test (nat_le other count) refl where
  by_test : (few : Bool) → nat_le other count ≡ few → other ≤ count
  by_test true is = grind (arith, nat_tests)
  by_test false is =
      let more : count < other = grind (arith, nat_tests) in
      let long : other ≤ 1 + number_digits new_form =
      omega (arith, inside, spelled.counted, ap length prefix, length-take other right, length-take other bytes) in
      let same : slice_index right count ≡ slice_index bytes count =
      sym (get_or-take other right count 0 more) ∙ ap (λ list. slice_index list count) prefix ∙ get_or-take other bytes count 0 more in
      let impossible : true ≡ false = sym (spelled_fits new_form right number count spelled (omega arith))
      ∙ ap (fits_at new_form count) same ∙ fitting.next (omega (arith, inside)) in
      cc

-- where the bytes are no right file, they break its form after the longer of those that fit one of the forms
pub fault_at : (bytes : List ℕ) (new_form_count old_form_count : ℕ) (byte : Option ℕ) → ((number : ℕ) → ¬ (SpellsSequence bytes number))
    → IsFittingPrefix true bytes new_form_count → IsFittingPrefix false bytes old_form_count
    → slice_get bytes (max new_form_count old_form_count) ≡ byte → IsFaultAt bytes (max new_form_count old_form_count) byte
fault_at bytes new_form_count old_form_count byte wrong new_form_fitting old_form_fitting there = record {
  wrong = wrong;
  prefix = by_order (cases_lt new_form_count old_form_count);
  longest = λ other prefix. by_form other prefix prefix.spelled.0 prefix.spelled.1;
  there = there;
} where
  by_order : (new_form_count < old_form_count) ⊎ (old_form_count ≤ new_form_count)
      → HasSequencePrefix bytes (max new_form_count old_form_count)
  by_order (inl less) = subst (HasSequencePrefix bytes) (omega arith) (right_prefix false bytes old_form_count old_form_fitting)
  by_order (inr more) = subst (HasSequencePrefix bytes) (omega arith) (right_prefix true bytes new_form_count new_form_fitting)

  by_form : (other : ℕ) (prefix : HasSequencePrefix bytes other) (new_form : Bool) → SpellsIn new_form prefix.right prefix.number
      → other ≤ max new_form_count old_form_count
  by_form other prefix true spelled = omega (
    arith,
    longest_prefix true bytes prefix.right prefix.number new_form_count other new_form_fitting spelled prefix.inside prefix.prefix,
  )
  by_form other prefix false spelled = omega (
    arith,
    longest_prefix false bytes prefix.right prefix.number old_form_count other old_form_fitting spelled prefix.inside prefix.prefix,
  )

-- bytes in which no number of either form is found are no right file
pub of_no_form : (bytes : List ℕ) (new_form old_form : Option ℕ) → IfNone new_form ((number : ℕ) → ¬ (SpellsIn true bytes number))
    → IfNone old_form ((number : ℕ) → ¬ (SpellsIn false bytes number)) → option_or new_form old_form ≡ None → (number : ℕ)
    → ¬ (SpellsSequence bytes number)
of_no_form bytes (Some found) old_form not_new_form not_old_form none = cc
of_no_form bytes None (Some found) not_new_form not_old_form none = cc
of_no_form bytes None None not_new_form not_old_form none = λ number spelled. by_form number spelled.0 spelled.1 where
  by_form : (number : ℕ) (new_form : Bool) → ¬ (SpellsIn new_form bytes number)
  by_form number true = not_new_form number
  by_form number false = not_old_form number
