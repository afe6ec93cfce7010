-- Two kinds of records (own).
use Rattle.std.specs.Prelude.{◌≡◌, ◌<◌, ◌≤◌, ◌==◌, ◌+◌, ℕ, Bool, List, [], ◌∷◌, ◌++◌, length, Option, Some, None}
use Rattle.std.proofs.Common.{ap}
use Rattle.std.specs.BTreeSet.{BTreeSet, contains}
use Rattle.std.specs.List.{list_any}
use Rattle.std.specs.Ordering.{nat_cmp}
use Rattle.text_reader.specs.HexDigits.{SpellsNumber}
use Rattle.text_reader.proofs.DigitLemmas.{one_number}
use Rattle.text_tests.specs.declared.letters.Letter.{Letter}
use Rattle.text_tests.specs.declared.numbers.Number.{Number}

-- the line is the letter, from a to z
pub record SpellsLetter (line : List ℕ) (letter : Letter) : Type 0 where
  pub only : line ≡ letter.byte ∷ []
  pub from : 97 ≤ letter.byte
  pub to : letter.byte ≤ 122

pub one_letter : (line : List ℕ) (first second : Letter) → SpellsLetter line first → SpellsLetter line second → first ≡ second
one_letter line first second of_first of_second =
    let letter : ℕ → Letter = λ byte. record { byte = byte } in
    let one = of_first.only in
    let two = of_second.only in
    ap letter cc

-- the letter that came last
abbrev pub last_of : List Letter → Option ℕ
last_of [] = None
last_of (letter ∷ []) = Some letter.byte
last_of (_ ∷ next ∷ later) = last_of (next ∷ later)

-- the letter may come after the last one
abbrev pub MayFollow : Option ℕ → ℕ → Type 0
MayFollow None byte = Unit {0}
MayFollow (Some last) byte = last < byte

-- the line is eight digits, which spell the number
pub record SpellsDigits (line : List ℕ) (one : Number) : Type 0 where
  pub count : length line ≡ 8
  pub spelled : SpellsNumber line one.number

pub one_digits : (line : List ℕ) (first second : Number) → SpellsDigits line first → SpellsDigits line second → first ≡ second
one_digits line first second of_first of_second =
    let one : ℕ → Number = λ number. record { number = number } in
    ap one (one_number line first.number second.number of_first.spelled of_second.spelled)

-- one of the records has the number
abbrev pub has_record_number : ℕ → List Number → Bool
has_record_number number records = list_any (λ one. one.number == number) records

-- the numbers of the records are in the set, and no other
abbrev pub AreKeptNumbers : List Number → BTreeSet ℕ → Type 0
AreKeptNumbers records kept = (number : ℕ) → contains nat_cmp kept number ≡ has_record_number number records
