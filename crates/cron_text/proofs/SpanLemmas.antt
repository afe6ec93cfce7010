-- The reader of a range reads its spelling, and nothing else.
use Rattle.std.proofs.Common.{◌≡◌, ◌∙◌, ℕ, ◌+◌, ◌-◌, ◌*◌, ◌≤◌, ◌⊎◌, ◌&&◌, nat_le, true, false, cond, List, [], ◌∷◌, ◌++◌, length, Option, Some, None, refl, sym, ap, subst, arith, inl, inr, eqb-true, append-nil}
use Rattle.std.proofs.lemmas.Bool.{and_parts}
use Rattle.std.proofs.lemmas.Bool.Decides.{nat_tests}
use Rattle.std.proofs.lemmas.List.{nil_from_length}
use Rattle.std.proofs.lemmas.Option.{none-some, same_Some}
use Rattle.std.specs.Char.{is_ascii_digit}
use Rattle.cron_text.specs.Field.{SpellsCronNumber, one_digit, two_digits, SpellsSpan, one_number, two_numbers, SpellsElement}
use Rattle.cron_text.specs.inside.Reader.{number_before, digit_before, range_to, range_from, span_in, element_in}
use Rattle.text_reader.specs.ReadResult.{two_digits_in}
use Rattle.text_reader.proofs.OptionLemmas.{cond_some, and_then_some}
use Rattle.cron_text.proofs.OptionLemmas.{cond_then, or_some}

-- a number and nothing after it
pub number_alone : (text : List ℕ) (number : ℕ) → SpellsCronNumber text number → number_before text ≡ Some (number, [])
unfolding number_before digit_before two_digits_in
number_alone text number (one_digit ones digit spelled value) = rw (spelled, digit, value)
number_alone text number (two_digits tens ones first second spelled value) = rw (spelled, first, second, value)

-- a number with a hyphen after it
pub number_hyphen : (text : List ℕ) (number : ℕ) (rest : List ℕ) → SpellsCronNumber text number
    → number_before (text ++ 45 ∷ rest) ≡ Some (number, 45 ∷ rest)
unfolding number_before digit_before two_digits_in
number_hyphen text number rest (one_digit ones digit spelled value) = rw (spelled, digit, value)
number_hyphen text number rest (two_digits tens ones first second spelled value) = rw (spelled, first, second, value)

-- what was read as a number is one, with the rest after it
abbrev pub BeginsWithNumber : List ℕ → ℕ → List ℕ → Type 0
BeginsWithNumber text number rest = (spelled : List ℕ) × SpellsCronNumber spelled number × (text ≡ spelled ++ rest)

-- the number and the rest are these
abbrev IsRead : ℕ → List ℕ → ℕ → List ℕ → Type 0
IsRead found more number rest = ◌≡◌ {A = ℕ × List ℕ} (found, more) (number, rest)

abbrev read : ℕ → List ℕ → Option (ℕ × List ℕ)
read number rest = Some (number, rest)

pub number_sound : (text rest : List ℕ) (number : ℕ) → number_before text ≡ Some (number, rest) → BeginsWithNumber text number rest
unfolding number_before digit_before two_digits_in
number_sound [] rest number e = absurd (none-some _ e)
number_sound (ones ∷ []) rest number e =
    let (digit, same) = cond_some _ _ _ e in
    let value : ones - 48 ≡ number = ap (λ p. p.0) same in
    let left : [] ≡ rest = ap (λ p. p.1) same in
    (ones ∷ [], one_digit ones digit refl (sym value), ap (λ r. ones ∷ r) left)
number_sound (tens ∷ ones ∷ more) rest number e = go (or_some _ _ _ _ e)
  where
    go : ((is_ascii_digit tens && is_ascii_digit ones) ≡ true) × (IsRead ((tens - 48) * 10 + (ones - 48)) more number rest)
        ⊎ ((is_ascii_digit tens && is_ascii_digit ones) ≡ false) × (digit_before (tens ∷ ones ∷ more) ≡ read number rest)
        → BeginsWithNumber (tens ∷ ones ∷ more) number rest
    go (inl (digits, same)) =
        let both = and_parts _ _ digits in
        let value : (tens - 48) * 10 + (ones - 48) ≡ number = ap (λ p. p.0) same in
        let left : more ≡ rest = ap (λ p. p.1) same in
        (tens ∷ ones ∷ [], two_digits tens ones both.0 both.1 refl (sym value), ap (λ r. tens ∷ ones ∷ r) left)
    go (inr (none, other)) =
        let (digit, same) = cond_some _ _ _ other in
        let value : tens - 48 ≡ number = ap (λ p. p.0) same in
        let left : ones ∷ more ≡ rest = ap (λ p. p.1) same in
        (tens ∷ [], one_digit tens digit refl (sym value), ap (λ r. tens ∷ r) left)

-- a number and nothing after it spells this number
whole_sound : (text rest : List ℕ) (number : ℕ) → BeginsWithNumber text number rest → length rest ≡ 0 → SpellsCronNumber text number
whole_sound text rest number begins none =
    let nothing : rest ≡ [] = nil_from_length rest none in
    let same : text ≡ begins.0 = begins.2 ∙ ap (λ r. begins.0 ++ r) nothing ∙ append-nil begins.0 in
    subst (λ (t : List ℕ). SpellsCronNumber t number) (sym same) begins.1

from_sound : (text rest : List ℕ) (first : ℕ) (span : ℕ × ℕ) → BeginsWithNumber text first rest
    → range_from first rest ≡ Some span → SpellsSpan text span
unfolding range_from range_to
from_sound text [] first span begins e = one_number first (whole_sound text [] first begins refl) (sym (same_Some _ _ e))
from_sound text (hyphen ∷ rest) first span begins e =
    let (is_hyphen, read) = cond_then _ _ _ e in
    and_then_some _ (number_before rest) span read λ last got e₁.
    let (ended, same) = cond_some _ _ _ e₁ in
    let at : hyphen ≡ 45 = eqb-true _ _ is_hyphen in
    let spelled : text ≡ begins.0 ++ 45 ∷ rest = begins.2 ∙ ap (λ h. begins.0 ++ h ∷ rest) at in
    let second = whole_sound rest last.1 last.0 (number_sound rest last.1 last.0 got) (eqb-true _ _ ended) in
    two_numbers begins.0 rest first last.0 spelled begins.1 second (sym same)

pub span_sound : (text : List ℕ) (span : ℕ × ℕ) → span_in text ≡ Some span → SpellsSpan text span
unfolding span_in
span_sound text span e =
    and_then_some _ (number_before text) span e λ first got e₁.
    from_sound text first.1 first.0 span (number_sound text first.1 first.0 got) e₁

pub span_complete : (text : List ℕ) (span : ℕ × ℕ) → SpellsSpan text span → span_in text ≡ Some span
unfolding span_in range_from range_to
span_complete text span (one_number number spelled value) = rw (number_alone text number spelled, value)
span_complete text span (two_numbers left right first last spelled before after value) =
    rw (spelled, number_hyphen left first right before, number_alone right last after, value)

pub element_sound : (low high : ℕ) (text : List ℕ) (span : ℕ × ℕ) → element_in low high text ≡ Some span → SpellsElement low high text span
unfolding element_in
element_sound low high text span e =
    and_then_some _ (span_in text) span e λ found got e₁.
    let (test, same) = cond_some _ _ _ e₁ in
    let from_low : low ≤ found.0 = grind (arith, nat_tests) in
    let forwards : found.0 ≤ found.1 = grind (arith, nat_tests) in
    let to_high : found.1 ≤ high = grind (arith, nat_tests) in
    subst (SpellsElement low high text) same (record {
      spelled = span_sound text found got;
      within = record { from_low = from_low; forwards = forwards; to_high = to_high };
    })

pub element_complete : (low high : ℕ) (text : List ℕ) (span : ℕ × ℕ) → SpellsElement low high text span
    → element_in low high text ≡ Some span
unfolding element_in
element_complete low high text span element =
    let from_low = element.within.from_low in
    let forwards = element.within.forwards in
    let to_high = element.within.to_high in
    let test : ((nat_le low span.0 && nat_le span.0 span.1) && nat_le span.1 high) ≡ true = grind (arith, nat_tests) in
    rw (span_complete text span element.spelled, test)
