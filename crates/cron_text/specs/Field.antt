-- The patterns of a crontab's entry (POSIX.1-2017, XCU crontab, Input Files: each pattern is an asterisk, which stands
-- for all valid values, or a list of elements with commas between them; an element is a number, or two numbers with a
-- hyphen between them, which mean a range with both its ends). That a number has one or two digits, and that a range
-- may not run backwards, is this project's own.
use Rattle.std.specs.Prelude.{◌≡◌, ◌≤◌, ◌+◌, ◌-◌, ◌*◌, ◌==◌, ◌&&◌, ℕ, Bool, true, false, IsTrue, List, [], ◌∷◌, ◌++◌, codes, nat_le, if◌then◌else◌}
use Rattle.std.specs.List.{list_any, slice_split}
use Rattle.std.specs.Char.{is_ascii_digit}
use Rattle.std.specs.Int.{bit_at}
use Rattle.cron_text.specs.declared.field.Field.{Field}

-- the text is one or two decimal digits, which spell the number
pub data SpellsCronNumber (text : List ℕ) (number : ℕ) : Type 0 where
  one_digit : (ones : ℕ) → IsTrue (is_ascii_digit ones) → text ≡ ones ∷ [] → number ≡ ones - 48 → SpellsCronNumber text number
  two_digits : (tens ones : ℕ) → IsTrue (is_ascii_digit tens) → IsTrue (is_ascii_digit ones)
      → text ≡ tens ∷ ones ∷ [] → number ≡ (tens - 48) * 10 + (ones - 48) → SpellsCronNumber text number

-- the text is a number, which is its own range, or two with a hyphen between them: the first and the last of a range
pub data SpellsSpan (text : List ℕ) (span : ℕ × ℕ) : Type 0 where
  one_number : (number : ℕ) → SpellsCronNumber text number → span ≡ (number, number) → SpellsSpan text span
  two_numbers : (left right : List ℕ) (first last : ℕ) → text ≡ left ++ 45 ∷ right
      → SpellsCronNumber left first → SpellsCronNumber right last → span ≡ (first, last) → SpellsSpan text span

-- the range goes from low to high, and doesn't run backwards
pub record IsSpanIn (low high : ℕ) (span : ℕ × ℕ) : Type 0 where
  pub from_low : low ≤ span.0
  pub forwards : span.0 ≤ span.1
  pub to_high : span.1 ≤ high

-- the element spells a range that goes from low to high
pub record SpellsElement (low high : ℕ) (text : List ℕ) (span : ℕ × ℕ) : Type 0 where
  pub spelled : SpellsSpan text span
  pub within : IsSpanIn low high span

-- what is between the commas of a list, or the ends of the text
abbrev pub elements_of : List ℕ → List (List ℕ)
elements_of text = slice_split (λ byte. byte == 44) text

-- each of the elements spells the range at its place
abbrev pub SpellElements : ℕ → ℕ → List (List ℕ) → List (ℕ × ℕ) → Type 0
SpellElements low high [] [] = Unit {0}
SpellElements low high (element ∷ elements) (span ∷ spans) =
    SpellsElement low high element span × SpellElements low high elements spans
SpellElements low high _ _ = ⊥

-- one of the ranges holds the value
abbrev pub is_held : List (ℕ × ℕ) → ℕ → Bool
is_held spans value = list_any (λ span. nat_le span.0 value && nat_le value span.1) spans

-- bit v is set exactly where one of the ranges holds v
abbrev pub AreBitsOf : List (ℕ × ℕ) → ℕ → Type 0
AreBitsOf spans bits = (value : ℕ) → bit_at bits value ≡ (if is_held spans value then 1 else 0)

-- the text is an asterisk, which holds each number from low to high, or a list, which holds the numbers of its ranges
pub data SpellsField (low high : ℕ) (text : List ℕ) (field : Field) : Type 0 where
  asterisk : text ≡ codes "*" → field.star ≡ true → AreBitsOf ((low, high) ∷ []) field.bits
      → SpellsField low high text field
  list : (spans : List (ℕ × ℕ)) → SpellElements low high (elements_of text) spans → field.star ≡ false
      → AreBitsOf spans field.bits → SpellsField low high text field
