-- The reader of a list reads one element after another.
use Rattle.std.proofs.Common.{◌≡◌, ◌∙◌, ℕ, ◌+◌, ◌<◌, ◌≤◌, List, ◌∷◌, length, drop, get_or, Some, None, refl, sym, ap, arith}
use Rattle.std.proofs.lemmas.List.{at_drop_more, at_drop_all}
use Rattle.std.specs.Int.RustNames.{bit_or}
use Rattle.cron_text.specs.inside.Reader.{element_in, elements_in, bits_between}

-- this item is the next of the list
abbrev pub IsNextOf : {A : Type 0} → List A → ℕ → A → Type 0
IsNextOf items place item = (place < length items) × (item ≡ get_or items place item)

-- where the rest of the list begins with the item, what is computed of it is computed of the item and its rest
pub at_next : {A B : Type 0} (f : List A → B) (items : List A) (place : ℕ) (item : A) → IsNextOf items place item
    → f (drop place items) ≡ f (item ∷ drop (place + 1) items)
at_next f items place item next =
    at_drop_more f items place item next.0 ∙ ap (λ first. f (first ∷ drop (place + 1) items)) (sym next.1)

pub elements-more : (low high bits : ℕ) (elements : List (List ℕ)) (place : ℕ) (element : List ℕ) (span : ℕ × ℕ)
    → IsNextOf elements place element → element_in low high element ≡ Some span
    → elements_in low high bits (drop place elements) ≡ elements_in low high (bit_or bits (bits_between span)) (drop (place + 1) elements)
unfolding elements_in
elements-more low high bits elements place element span next read =
    at_next (elements_in low high bits) elements place element next ∙ rw read refl

pub elements-bad : (low high bits : ℕ) (elements : List (List ℕ)) (place : ℕ) (element : List ℕ)
    → IsNextOf elements place element → element_in low high element ≡ None
    → elements_in low high bits (drop place elements) ≡ None
unfolding elements_in
elements-bad low high bits elements place element next read =
    at_next (elements_in low high bits) elements place element next ∙ rw read refl

pub elements-end : {P : Type 0} (low high bits : ℕ) (elements : List (List ℕ)) (place : ℕ) → P × (place ≡ length elements)
    → elements_in low high bits (drop place elements) ≡ Some bits
unfolding elements_in
elements-end low high bits elements place ended =
    let all : length elements ≤ place = omega (arith, ended.1) in at_drop_all (elements_in low high bits) elements place all
