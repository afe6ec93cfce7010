-- The sequence file (own): the hexadecimal digits of a number, eight or five, and a newline.
use Rattle.std.specs.Prelude.{◌≡◌, ◌≤◌, ◌+◌, ℕ, Bool, List, Option, Some, None, codes, length, take, slice_get, slice_index}
use Rattle.text_reader.specs.HexDigits.{SpellsNumber}
use Rattle.spool_model.specs.Numbers.{number_digits}

-- the name of the sequence file
abbrev pub sequence_file : List ℕ
sequence_file = codes ".SEQ"

-- the bytes are the digits of the number in this form and a newline
pub record SpellsIn (new_form : Bool) (bytes : List ℕ) (number : ℕ) : Type 0 where
  pub counted : length bytes ≡ 1 + number_digits new_form
  pub digits : SpellsNumber (take (number_digits new_form) bytes) number
  pub newline : slice_index bytes (number_digits new_form) ≡ 10

-- the bytes are those of the number in one of the two forms
abbrev pub SpellsSequence : List ℕ → ℕ → Type 0
SpellsSequence bytes number = (new_form : Bool) × SpellsIn new_form bytes number

-- the file gives the number; without a file it is 0
abbrev pub GivesNumber : Option (List ℕ) → ℕ → Type 0
GivesNumber None number = number ≡ 0
GivesNumber (Some bytes) number = SpellsSequence bytes number

-- the first bytes are those of some right file
pub record HasSequencePrefix (bytes : List ℕ) (count : ℕ) : Type 0 where
  pub number : ℕ
  pub right : List ℕ
  pub spelled : SpellsSequence right number
  pub inside : count ≤ length bytes
  pub prefix : take count right ≡ take count bytes

-- The bytes are no right file. Up to the offset they are those of some right file, and no further.
pub record IsFaultAt (bytes : List ℕ) (offset : ℕ) (byte : Option ℕ) : Type 0 where
  pub wrong : (number : ℕ) → ¬ (SpellsSequence bytes number)
  pub prefix : HasSequencePrefix bytes offset
  pub longest : (count : ℕ) → HasSequencePrefix bytes count → count ≤ offset
  pub there : slice_get bytes offset ≡ byte
