-- A line spells one record at most.
use Rattle.std.proofs.Common.{◌≡◌, ◌⊎◌, ◌∙◌, ℕ, List, ◌++◌, length, inl, inr, ap, arith, drop, refl, subst, sym, take}
use Rattle.std.proofs.Math.Seq.{drop-append_seam}
use Rattle.std.proofs.lemmas.List.{take_at}
use Rattle.text_reader.specs.HexDigits.{SpellsNumber}
use Rattle.text_reader.proofs.DigitLemmas.{one_number}
use Rattle.at_account.specs.declared.record.AccountEvent.{AccountEvent}
use Rattle.at_account.specs.declared.record.AccountEvent.TheVariants.{Closed, Seen, Started}
use Rattle.at_account.specs.declared.record.AccountRecord.{AccountRecord}
use Rattle.at_account.specs.declared.record.Closing.{Closing}
use Rattle.at_account.specs.declared.record.Closing.TheVariants.{Finished, Interrupted, Lost, NotStarted, Removed}
use Rattle.at_account.specs.declared.record.Owner.{Owner}
use Rattle.at_account.specs.Lines.{IsEventText, SpellsRecord, letter_of_event}

-- what is after a number is one event's
one_closing : (first second : Closing) → letter_of_event (Closed first) ≡ letter_of_event (Closed second) → first ≡ second
one_closing Finished Finished same = refl
one_closing NotStarted NotStarted same = refl
one_closing Interrupted Interrupted same = refl
one_closing Removed Removed same = refl
one_closing Lost Lost same = refl
one_closing first second same = absurd (omega arith)

not_closing : (closing : Closing) → (letter_of_event (Closed closing) ≡ 65) ⊎ (letter_of_event (Closed closing) ≡ 83) → ⊥
not_closing Finished same = omega arith
not_closing NotStarted same = omega arith
not_closing Interrupted same = omega arith
not_closing Removed same = omega arith
not_closing Lost same = omega arith

one_event : (letter : ℕ) (rest : List ℕ) (first second : AccountEvent)
    → IsEventText letter rest first → IsEventText letter rest second → first ≡ second
one_event letter rest (Seen first) (Seen second) of_first of_second =
    let one = of_first.rest_is.is in
    let two = of_second.rest_is.is in
    let owner : List ℕ → ℕ → Owner = λ user queue. record { user = user; queue = queue } in
    let users : first.user ≡ second.user = cc in
    let queues : first.queue ≡ second.queue = cc in
    ap Seen (ap (λ user. owner user first.queue) users ∙ ap (owner second.user) queues)
one_event letter rest (Seen first) Started of_first of_second = absurd (omega (arith, of_first.letter_is, of_second.letter_is))
one_event letter rest (Seen first) (Closed second) of_first of_second =
    absurd (not_closing second (inl (sym of_second.letter_is ∙ of_first.letter_is)))
one_event letter rest Started (Seen second) of_first of_second = absurd (omega (arith, of_first.letter_is, of_second.letter_is))
one_event letter rest Started Started of_first of_second = refl
one_event letter rest Started (Closed second) of_first of_second =
    absurd (not_closing second (inr (sym of_second.letter_is ∙ of_first.letter_is)))
one_event letter rest (Closed first) (Seen second) of_first of_second =
    absurd (not_closing first (inl (sym of_first.letter_is ∙ of_second.letter_is)))
one_event letter rest (Closed first) Started of_first of_second =
    absurd (not_closing first (inr (sym of_first.letter_is ∙ of_second.letter_is)))
one_event letter rest (Closed first) (Closed second) of_first of_second =
    ap Closed (one_closing first second (sym of_first.letter_is ∙ of_second.letter_is))

-- eight digits and what is after them
pub eight : (digits rest text : List ℕ) → text ≡ digits ++ rest → length digits ≡ 8 → (take 8 text ≡ digits) ×
    (drop 8 text ≡ rest)
eight digits rest text parted counted = (
  ap (take 8) parted ∙ take_at digits rest 8 counted,
  ap (drop 8) parted ∙ ap (λ count. drop count (digits ++ rest)) (sym counted) ∙ drop-append_seam digits rest,
)

pub one_record : (line : List ℕ) (first second : AccountRecord) → SpellsRecord line first → SpellsRecord line second →
    first ≡ second
one_record line first second of_first of_second =
    let one = of_first.parted in
    let two = of_second.parted in
    let letters : of_first.letter ≡ of_second.letter = cc in
    let texts : of_first.digits ++ of_first.rest ≡ of_second.digits ++ of_second.rest = cc in
    let left = eight of_first.digits of_first.rest _ refl of_first.counted in
    let right = eight of_second.digits of_second.rest _ refl of_second.counted in
    let digits : of_first.digits ≡ of_second.digits = sym left.0 ∙ ap (take 8) texts ∙ right.0 in
    let rests : of_first.rest ≡ of_second.rest = sym left.1 ∙ ap (drop 8) texts ∙ right.1 in
    let number : SpellsNumber of_second.digits first.number = subst (λ text. SpellsNumber text first.number) digits of_first.number in
    let numbers : first.number ≡ second.number = one_number of_second.digits first.number second.number number of_second.number in
    let rest : IsEventText of_first.letter of_second.rest first.event =
    subst (λ text. IsEventText of_first.letter text first.event) rests of_first.event in
    let moved : IsEventText of_second.letter of_second.rest first.event =
    subst (λ letter. IsEventText letter of_second.rest first.event) letters rest in
    let events : first.event ≡ second.event =
    one_event of_second.letter of_second.rest first.event second.event moved of_second.event in
    let account : ℕ → AccountEvent → AccountRecord = λ number event. record { number = number; event = event } in
    ap (λ number. account number first.event) numbers ∙ ap (account second.number) events
