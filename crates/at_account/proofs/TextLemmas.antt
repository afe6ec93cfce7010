-- The text of a record.
use Rattle.std.proofs.Common.{◌≡◌, ◌∙◌, ℕ, ◌-◌, List, [], ◌∷◌, ◌++◌, length, take, drop, get_or, sym, ap, append_assoc}
use Rattle.text_reader.specs.HexDigits.{SpellsNumber}
use Rattle.text_reader.proofs.DigitLemmas.{one_spelling}
use Rattle.record_lines.proofs.LineLemmas.{after_space}
use Rattle.at_account.specs.declared.record.AccountEvent.{AccountEvent}
use Rattle.at_account.specs.declared.record.AccountEvent.TheVariants.{Closed, Seen, Started}
use Rattle.at_account.specs.declared.record.AccountRecord.{AccountRecord}
use Rattle.at_account.specs.Lines.{IsRestOf, SpellsRecord, letter_of_event, owner_text}
use Rattle.at_account.specs.inside.Spelling.{eight}

-- what is after the number of an event is its text
pub rest_text : (rest : List ℕ) (event : AccountEvent) → IsRestOf rest event → rest ≡ owner_text event
rest_text rest (Seen owner) is = is.is
rest_text rest Started is = is
rest_text rest (Closed closing) is = is

-- the line that a record is spelled in, part by part
pub text_added : (old with_letter with_space with_digits digits line : List ℕ) (one : AccountRecord) → SpellsRecord line one
    → with_letter ≡ old ++ letter_of_event one.event ∷ [] → with_space ≡ with_letter ++ 32 ∷ [] → with_digits ≡ with_space ++ digits
    → (length digits ≡ 8) × SpellsNumber digits one.number
    → with_digits ++ owner_text one.event ≡ old ++ line
text_added old with_letter with_space with_digits digits line one spelled first second third (counted, number) =
    let same : digits ≡ spelled.digits =
    one_spelling digits spelled.digits one.number (counted ∙ sym spelled.counted) number spelled.number in
    let rest : owner_text one.event ≡ spelled.rest = sym (rest_text spelled.rest one.event spelled.event.rest_is) in
    let letter : letter_of_event one.event ≡ spelled.letter = sym spelled.event.letter_is in
    let whole : with_digits ≡ ((old ++ spelled.letter ∷ []) ++ 32 ∷ []) ++ spelled.digits =
    third ∙ ap (λ d. with_space ++ d) same
    ∙ ap (λ w. w ++ spelled.digits) (second ∙ ap (λ w. w ++ 32 ∷ []) (first ∙ ap (λ l. old ++ l ∷ []) letter)) in
    ap (λ w. w ++ owner_text one.event) whole ∙ ap (λ r. (((old ++ spelled.letter ∷ []) ++ 32 ∷ []) ++ spelled.digits) ++ r) rest
    ∙ append_assoc ((old ++ spelled.letter ∷ []) ++ 32 ∷ []) spelled.digits spelled.rest
    ∙ append_assoc (old ++ spelled.letter ∷ []) (32 ∷ []) (spelled.digits ++ spelled.rest)
    ∙ append_assoc old (spelled.letter ∷ []) (32 ∷ (spelled.digits ++ spelled.rest))
    ∙ ap (λ l. old ++ l) (sym spelled.parted)

-- the digits of a line that spells a record, and what is after them
pub digits_part : (line : List ℕ) (one : AccountRecord) (spelled : SpellsRecord line one)
    → take 8 (take (length line - 2) (drop 2 line)) ≡ spelled.digits
digits_part line one spelled = (eight spelled.digits spelled.rest _
    (after_space line (spelled.digits ++ spelled.rest) spelled.letter spelled.parted) spelled.counted).0

pub rest_part : (line : List ℕ) (one : AccountRecord) (spelled : SpellsRecord line one)
    → drop 8 (take (length line - 2) (drop 2 line)) ≡ spelled.rest
rest_part line one spelled = (eight spelled.digits spelled.rest _
    (after_space line (spelled.digits ++ spelled.rest) spelled.letter spelled.parted) spelled.counted).1

-- the letter of a line that spells a record
pub letter_part : (line : List ℕ) (one : AccountRecord) (spelled : SpellsRecord line one) → get_or line 0 0 ≡ spelled.letter
letter_part line one spelled = ap (λ text. get_or text 0 0) spelled.parted
