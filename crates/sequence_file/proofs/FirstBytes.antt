-- Ten bytes decide what a sequence file gives, and where it is damaged. Used by the reading of the last number.
use Rattle.std.proofs.Common.{◌≡◌, ℕ, zero, suc, ◌<◌, ◌≤◌, Bool, true, false, List, [], ◌∷◌, length, take, sym, ap, subst, ◌∙◌, refl, arith, Option, Some, None, option_map}
use Rattle.std.specs.Prelude.{slice_get}
use Rattle.std.proofs.lemmas.List.{length-take-le, take_all}
use Rattle.host_calls.specs.declared.damage.Damage.{Damage}
use Rattle.sequence_file.specs.Faults.{IsSequenceDamage}
use Rattle.sequence_file.specs.Sequence.{GivesNumber, HasSequencePrefix, IsFaultAt, SpellsIn, SpellsSequence, sequence_file}

few_taken : (most : ℕ) (bytes : List ℕ) → (length (take most bytes) ≤ length bytes) × (length (take most bytes) ≤ most)
few_taken zero bytes = (omega arith, omega arith)
few_taken (suc most) [] = (omega arith, omega arith)
few_taken (suc most) (byte ∷ bytes) = let fewer = few_taken most bytes in (omega (arith, fewer.0), omega (arith, fewer.1))

long_start : (most count : ℕ) (bytes : List ℕ) → count ≤ most → count ≤ length bytes → count ≤ length (take most bytes)
long_start most zero bytes few inside = omega arith
long_start zero (suc count) bytes few inside = absurd (omega arith)
long_start (suc most) (suc count) [] few inside = absurd (omega arith)
long_start (suc most) (suc count) (byte ∷ bytes) few inside =
    let longer = long_start most count bytes (omega arith) (omega arith) in
    omega (arith, longer)

-- a shorter start of a start
shorter_start : (most count : ℕ) (bytes : List ℕ) → count ≤ most → take count (take most bytes) ≡ take count bytes
shorter_start most zero bytes few = refl
shorter_start zero (suc count) bytes few = absurd (omega arith)
shorter_start (suc most) (suc count) [] few = refl
shorter_start (suc most) (suc count) (byte ∷ bytes) few = ap (λ rest. byte ∷ rest) (shorter_start most count bytes (omega arith))

byte_of_start : (most : ℕ) (bytes : List ℕ) (place : ℕ) → place < most → slice_get (take most bytes) place ≡ slice_get bytes place
byte_of_start zero bytes place early = absurd (omega arith)
byte_of_start (suc most) [] place early = refl
byte_of_start (suc most) (byte ∷ bytes) zero early = refl
byte_of_start (suc most) (byte ∷ bytes) (suc place) early = byte_of_start most bytes place (omega arith)

-- a start that its bound did not cut is all
whole_start : (most : ℕ) (bytes : List ℕ) → length (take most bytes) < most → take most bytes ≡ bytes
whole_start zero bytes few = absurd (omega arith)
whole_start (suc most) [] few = refl
whole_start (suc most) (byte ∷ bytes) few = ap (λ rest. byte ∷ rest) (whole_start most bytes (omega arith))

right_length : (new_form : Bool) (bytes : List ℕ) (number : ℕ) → SpellsIn new_form bytes number → length bytes < 10
right_length true bytes number is = omega (arith, is.counted)
right_length false bytes number is = omega (arith, is.counted)

start_spells : (bytes : List ℕ) (number : ℕ) → SpellsSequence (take 10 bytes) number → SpellsSequence bytes number
start_spells bytes number is =
    subst (λ all. SpellsSequence all number) (whole_start 10 bytes (right_length is.0 (take 10 bytes) number is.1)) is

spells_start : (bytes : List ℕ) (number : ℕ) → SpellsSequence bytes number → SpellsSequence (take 10 bytes) number
spells_start bytes number is =
    let few = right_length is.0 bytes number is.1 in
    subst (λ all. SpellsSequence all number) (sym (take_all 10 bytes (omega (arith, few)))) is

-- a start of a right file is shorter than ten bytes
prefix_length : (bytes : List ℕ) (count : ℕ) → HasSequencePrefix bytes count → count < 10
prefix_length bytes count is =
    let few = right_length is.spelled.0 is.right is.number is.spelled.1 in
    let taken = few_taken count is.right in
    let whole : length (take count bytes) ≡ count = length-take-le count bytes is.inside in
    let same : length (take count is.right) ≡ length (take count bytes) = ap length is.prefix in
    omega (arith, few, taken.0, whole, same)

-- the ten bytes are damaged where all bytes are
pub start_fault : (bytes : List ℕ) (offset : ℕ) (byte : Option ℕ) → IsFaultAt (take 10 bytes) offset byte → IsFaultAt bytes offset byte
start_fault bytes offset byte fault =
    let early = prefix_length (take 10 bytes) offset fault.prefix in
    let taken = few_taken 10 bytes in
    record {
      wrong = λ number spelled. fault.wrong number (spells_start bytes number spelled);
      prefix = record {
        number = fault.prefix.number;
        right = fault.prefix.right;
        spelled = fault.prefix.spelled;
        inside = omega (arith, fault.prefix.inside, taken.0);
        prefix = fault.prefix.prefix ∙ shorter_start 10 offset bytes (omega (arith, early));
      };
      longest = λ count prefix.
          let few = prefix_length bytes count prefix in
          fault.longest count (record {
            number = prefix.number;
            right = prefix.right;
            spelled = prefix.spelled;
            inside = long_start 10 count bytes (omega (arith, few)) prefix.inside;
            prefix = prefix.prefix ∙ sym (shorter_start 10 count bytes (omega (arith, few)));
          });
      there = sym (byte_of_start 10 bytes offset early) ∙ fault.there;
    }

-- so the start gives the number of the file
pub number_of_start : (content : Option (List ℕ)) (number : ℕ) → GivesNumber (option_map (take 10) content) number
    → GivesNumber content number
number_of_start None number is = is
number_of_start (Some bytes) number is = start_spells bytes number is

-- and its damage
pub damage_of_start : (content : Option (List ℕ)) (first : List ℕ) (damage : Damage) → Some first ≡ option_map (take 10) content
    → damage.name ≡ sequence_file → IsFaultAt first damage.offset damage.byte → IsSequenceDamage content damage
damage_of_start None first damage same name fault = cc
damage_of_start (Some bytes) first damage same name fault = record {
  bytes = bytes;
  held = refl;
  name_is = name;
  fault = start_fault bytes damage.offset damage.byte
      (subst (λ start. IsFaultAt start damage.offset damage.byte) (started first (take 10 bytes) same) fault);
} where
  started : (one other : List ℕ) → Some one ≡ Some other → one ≡ other
  started one other same = cc
