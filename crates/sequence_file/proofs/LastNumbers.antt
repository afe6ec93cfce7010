-- What the sequence file gives, as it computes, is what it spells, and its damage is where it breaks its form.
use Rattle.std.proofs.Common.{◌≡◌, ℕ, zero, suc, ◌+◌, ◌<◌, ◌≤◌, Bool, true, false, cond, Option, Some, None, List, [], ◌∷◌, length, take, sym, ap, subst, ◌∙◌, refl, arith, eq-eqb}
use Rattle.std.specs.Prelude.{◌==◌, ◌&&◌, Ok, Err, slice_get, slice_index, if◌then◌else◌}
use Rattle.host_calls.specs.declared.damage.Damage.{Damage}
use Rattle.host_calls.specs.Damages.{damage_at}
use Rattle.text_reader.specs.HexValues.{number_in}
use Rattle.std.proofs.lemmas.Bool.{and_from, and_parts, eqb-true}
use Rattle.text_reader.proofs.ValueLemmas.{number_given, number_spelled}
use Rattle.sequence_file.specs.Faults.{IsSequenceDamage}
use Rattle.sequence_file.specs.LastNumber.{fitting, last_in, longest_fitting, number_or_damage, sequence_as, sequence_in}
use Rattle.sequence_file.specs.Laws.{LastNumbersAreGiven, LastNumbersAreDamaged}
use Rattle.sequence_file.specs.Places.{IsFittingPrefix, fits_at}
use Rattle.sequence_file.specs.Sequence.{GivesNumber, IsFaultAt, SpellsIn, SpellsSequence, sequence_file}
use Rattle.sequence_file.proofs.SequenceLemmas.{fault_at}
use Rattle.spool_model.specs.Numbers.{number_digits}
use Rattle.std.specs.Option.{option_or}

-- the bytes that are of a form give their number
given_as : (new_form : Bool) (bytes : List ℕ) (number : ℕ) → SpellsIn new_form bytes number → sequence_as new_form bytes ≡ Some number
given_as new_form bytes number spelled =
    let tests : (length bytes == 1 + number_digits new_form && slice_index bytes (number_digits new_form) == 10) ≡ true =
    and_from (length bytes == 1 + number_digits new_form) (slice_index bytes (number_digits new_form) == 10) (eq-eqb (length bytes)
    (1 + number_digits new_form) spelled.counted) (eq-eqb (slice_index bytes (number_digits new_form)) 10 spelled.newline) in
    ap (λ b. if b then number_in (take (number_digits new_form) bytes) else None) tests
    ∙ number_given (take (number_digits new_form) bytes) number spelled.digits

pub spelled_as : (new_form : Bool) (bytes : List ℕ) (number : ℕ) → sequence_as new_form bytes ≡ Some number → SpellsIn new_form bytes number
spelled_as new_form bytes number is =
    by_test (length bytes == 1 + number_digits new_form && slice_index bytes (number_digits new_form) == 10) refl is
  where
    by_test : (passes : Bool) → (length bytes == 1 + number_digits new_form && slice_index bytes (number_digits new_form) == 10) ≡ passes
        → (if passes then number_in (take (number_digits new_form) bytes) else None) ≡ Some number → SpellsIn new_form bytes number
    by_test true passes found =
        let tests : ((length bytes == 1 + number_digits new_form) ≡ true) × ((slice_index bytes (number_digits new_form) == 10) ≡ true) =
        and_parts (length bytes == 1 + number_digits new_form) (slice_index bytes (number_digits new_form) == 10) passes in
        record {
          counted = eqb-true (length bytes) (1 + number_digits new_form) tests.0;
          digits = number_spelled (take (number_digits new_form) bytes) number found;
          newline = eqb-true (slice_index bytes (number_digits new_form)) 10 tests.1;
        }
    by_test false passes found = cc

-- the sequence file gives the number that it spells
sequence_given : (bytes : List ℕ) (number : ℕ) → SpellsSequence bytes number → sequence_in bytes ≡ Some number
sequence_given bytes number spelled = by_form spelled.0 spelled.1 where
  by_form : (new_form : Bool) → SpellsIn new_form bytes number → sequence_in bytes ≡ Some number
  by_form true is = ap (λ found. option_or found (sequence_as false bytes)) (given_as true bytes number is)
  by_form false is = ap (option_or (sequence_as true bytes)) (given_as false bytes number is) ∙ no_new_form (sequence_as true bytes) refl
    where
      no_new_form : (found : Option ℕ) → sequence_as true bytes ≡ found → option_or found (Some number) ≡ Some number
      no_new_form None none = refl
      no_new_form (Some other) some = absurd (omega (arith, is.counted, (spelled_as true bytes other some).counted))

sequence_spelled : (bytes : List ℕ) (number : ℕ) → sequence_in bytes ≡ Some number → SpellsSequence bytes number
sequence_spelled bytes number is = by_found (sequence_as true bytes) refl is where
  by_found : (found : Option ℕ) → sequence_as true bytes ≡ found → option_or found (sequence_as false bytes) ≡ Some number
      → SpellsSequence bytes number
  by_found (Some other) some same = (true, spelled_as true bytes number (some ∙ same))
  by_found None none same = (false, spelled_as false bytes number same)

pub last_given : (content : Option (List ℕ)) (number : ℕ) → GivesNumber content number → last_in content ≡ Ok number
last_given None number is = ap Ok (sym is)
last_given (Some bytes) number spelled = ap (number_or_damage bytes) (sequence_given bytes number spelled)

pub last_spelled : (content : Option (List ℕ)) (number : ℕ) → last_in content ≡ Ok number → GivesNumber content number
last_spelled None number is = cc
last_spelled (Some bytes) number is = sequence_spelled bytes number (given_number (sequence_in bytes) is) where
  given_number : (found : Option ℕ) → number_or_damage bytes found ≡ Ok number → found ≡ Some number
  given_number (Some other) same = cc
  given_number None same = cc

fitting_prefix : (new_form : Bool) (place : ℕ) (bytes : List ℕ) → fitting new_form place bytes ≤ length bytes
fitting_prefix new_form place [] = omega arith
fitting_prefix new_form place (byte ∷ rest) = by_test (fits_at new_form place byte) (fitting_prefix new_form (place + 1) rest) where
  by_test : (b : Bool) → fitting new_form (place + 1) rest ≤ length rest
      → cond b (1 + fitting new_form (place + 1) rest) 0 ≤ length (byte ∷ rest)
  by_test true few = omega arith
  by_test false few = omega arith

fitting_each : (new_form : Bool) (place : ℕ) (bytes : List ℕ) (at : ℕ) → at < fitting new_form place bytes
    → fits_at new_form (place + at) (slice_index bytes at) ≡ true
fitting_each new_form place [] at few = absurd (omega arith)
fitting_each new_form place (byte ∷ rest) at few =
    by_test (fits_at new_form place byte) refl at few (λ other less. fitting_each new_form (place + 1) rest other less)
  where
    by_test : (b : Bool) → fits_at new_form place byte ≡ b → (at : ℕ) → at < cond b (1 + fitting new_form (place + 1) rest) 0
        → ((other : ℕ) → other < fitting new_form (place + 1) rest → fits_at new_form (place + 1 + other) (slice_index rest other) ≡ true)
        → fits_at new_form (place + at) (slice_index (byte ∷ rest) at) ≡ true
    by_test true is zero less later = let here : place + 0 ≡ place = omega arith in ap (λ p. fits_at new_form p byte) here ∙ is
    by_test true is (suc other) less later =
        let here : place + suc other ≡ place + 1 + other = omega arith in
        ap (λ p. fits_at new_form p (slice_index rest other)) here ∙ later other (omega arith)
    by_test false is other less later = absurd (omega arith)

fitting_next : (new_form : Bool) (place : ℕ) (bytes : List ℕ) → fitting new_form place bytes < length bytes
    → fits_at new_form (place + fitting new_form place bytes) (slice_index bytes (fitting new_form place bytes)) ≡ false
fitting_next new_form place [] few = absurd (omega arith)
fitting_next new_form place (byte ∷ rest) few = by_test (fits_at new_form place byte) refl few (fitting_next new_form (place + 1) rest)
  where
    by_test : (b : Bool) → fits_at new_form place byte ≡ b
        → cond b (1 + fitting new_form (place + 1) rest) 0 < length (byte ∷ rest) → (fitting new_form (place + 1) rest < length rest
        → fits_at new_form (place + 1 + fitting new_form (place + 1) rest) (slice_index rest (fitting new_form (place + 1) rest)) ≡ false)
        → fits_at new_form (place + cond b (1 + fitting new_form (place + 1) rest) 0)
        (slice_index (byte ∷ rest) (cond b (1 + fitting new_form (place + 1) rest) 0)) ≡ false
    by_test true is less later =
        let more : 1 + fitting new_form (place + 1) rest ≡ suc (fitting new_form (place + 1) rest) = omega arith in
        let here : place + (1 + fitting new_form (place + 1) rest) ≡ place + 1 + fitting new_form (place + 1) rest = omega arith in
        (λ i. fits_at new_form (here i) (slice_index (byte ∷ rest) (more i))) ∙ later (omega arith)
    by_test false is less later = let here : place + 0 ≡ place = omega arith in ap (λ p. fits_at new_form p byte) here ∙ is

fits_so : (new_form : Bool) (bytes : List ℕ) → IsFittingPrefix new_form bytes (fitting new_form 0 bytes)
fits_so new_form bytes = record {
  inside = fitting_prefix new_form 0 bytes;
  each = λ at few. let here : 0 + at ≡ at = omega arith in
      ap (λ p. fits_at new_form p (slice_index bytes at)) (sym here) ∙ fitting_each new_form 0 bytes at few;
  next = λ few. let here : 0 + fitting new_form 0 bytes ≡ fitting new_form 0 bytes = omega arith in
      ap (λ p. fits_at new_form p (slice_index bytes (fitting new_form 0 bytes))) (sym here) ∙ fitting_next new_form 0 bytes few;
}

-- after the longer prefix that fits, bytes that are no right file break its form
fault_after : (bytes : List ℕ) → ((number : ℕ) → ¬ (SpellsSequence bytes number))
    → IsFaultAt bytes (longest_fitting bytes) (slice_get bytes (longest_fitting bytes))
fault_after bytes wrong =
    fault_at bytes (fitting true 0 bytes) (fitting false 0 bytes) _ wrong (fits_so true bytes) (fits_so false bytes) refl

one_fault : (bytes : List ℕ) (damage : Damage) → damage.name ≡ sequence_file → IsFaultAt bytes damage.offset damage.byte
    → damage_at sequence_file bytes (longest_fitting bytes) ≡ damage
one_fault bytes damage name fault =
    let other : IsFaultAt bytes (longest_fitting bytes) (slice_get bytes (longest_fitting bytes)) = fault_after bytes fault.wrong in
    let one = fault.longest (longest_fitting bytes) other.prefix in
    let two = other.longest damage.offset fault.prefix in
    let same : longest_fitting bytes ≡ damage.offset = omega (arith, one, two) in
    let byte : slice_get bytes (longest_fitting bytes) ≡ damage.byte = ap (slice_get bytes) same ∙ fault.there in
    λ i. record { name = sym name i; offset = same i; byte = byte i }

pub last_damage : (content : Option (List ℕ)) (damage : Damage) → IsSequenceDamage content damage → last_in content ≡ Err damage
last_damage content damage is = ap last_in is.held ∙ by_number (sequence_in is.bytes) refl where
  by_number : (found : Option ℕ) → sequence_in is.bytes ≡ found → number_or_damage is.bytes found ≡ Err damage
  by_number (Some number) given =
      absurd (is.fault.wrong number (last_spelled (Some is.bytes) number (ap (number_or_damage is.bytes) given)))
  by_number None given = ap Err (one_fault is.bytes damage is.name_is is.fault)

-- a damage that is given is where the file breaks its form
damage_given : (content : Option (List ℕ)) (damage : Damage) → last_in content ≡ Err damage → IsSequenceDamage content damage
damage_given None damage is = cc
damage_given (Some bytes) damage is = by_number (sequence_in bytes) refl where
  by_number : (found : Option ℕ) → sequence_in bytes ≡ found → IsSequenceDamage (Some bytes) damage
  by_number (Some number) found =
      let given : Ok number ≡ Err damage = sym (ap (number_or_damage bytes) found) ∙ is in
      cc
  by_number None found =
      let whole : Err (damage_at sequence_file bytes (longest_fitting bytes)) ≡ Err damage = sym (ap (number_or_damage bytes) found) ∙ is in
      let same : damage_at sequence_file bytes (longest_fitting bytes) ≡ damage = cc in
      let wrong : (number : ℕ) → ¬ (SpellsSequence bytes number) = λ number spelled.
      let here : None ≡ Some number = sym found ∙ sequence_given bytes number spelled in cc in
      subst (IsSequenceDamage (Some bytes)) same (record {
        bytes = bytes;
        held = refl;
        name_is = refl;
        fault = fault_after bytes wrong;
      })

pub last_numbers_are_given : LastNumbersAreGiven
last_numbers_are_given content number = (last_spelled content number, last_given content number)

pub last_numbers_are_damaged : LastNumbersAreDamaged
last_numbers_are_damaged content damage = (damage_given content damage, last_damage content damage)
