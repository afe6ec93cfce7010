-- The reader of a pattern reads its spelling, and nothing else.
use Rattle.std.proofs.Common.{◌≡◌, ℕ, ◌⊎◌, inl, inr, Bool, true, false, List, [], ◌∷◌, Some, option_map, refl, sym, subst, codes}
use Rattle.std.proofs.lemmas.Option.{none-some}
use Rattle.std.proofs.lemmas.Slice.Eq.{bytes_eq-Decides}
use Rattle.std.specs.Str.{bytes_eq}
use Rattle.std.specs.Int.RustNames.{bit_or}
use Rattle.cron_text.specs.Field.{SpellElements, SpellsField, AreBitsOf, asterisk, list}
use Rattle.cron_text.specs.declared.field.Field.{Field}
use Rattle.cron_text.specs.inside.Reader.{number_before, digit_before, span_in, element_in, elements_in, elements_of, field_in, bits_between}
use Rattle.cron_text.proofs.BitLemmas.{with_bits, with_bits-spans, bits_between-span, one_bits}
use Rattle.text_reader.specs.ReadResult.{two_digits_in}
use Rattle.text_reader.proofs.OptionLemmas.{and_then_some}
use Rattle.cron_text.proofs.OptionLemmas.{cond_either, map_some}
use Rattle.cron_text.proofs.SpanLemmas.{element_sound, element_complete}

-- the ranges that a list was read as
abbrev ReadsAs : ℕ → ℕ → ℕ → List (List ℕ) → ℕ → Type 0
ReadsAs low high bits elements all = (spans : List (ℕ × ℕ)) × SpellElements low high elements spans × (all ≡ with_bits bits spans)

elements_sound : (low high bits : ℕ) (elements : List (List ℕ)) (all : ℕ) → elements_in low high bits elements ≡ Some all
    → ReadsAs low high bits elements all
unfolding elements_in with_bits
elements_sound low high bits [] all e = ([], tt, cc)
elements_sound low high bits (element ∷ elements) all e =
    and_then_some _ (element_in low high element) all e λ span got e₁.
    let more = elements_sound low high (bit_or bits (bits_between span)) elements all e₁ in
    (span ∷ more.0, (element_sound low high element span got, more.1), more.2)

elements_complete : (low high bits : ℕ) (elements : List (List ℕ)) (spans : List (ℕ × ℕ)) → SpellElements low high elements spans
    → elements_in low high bits elements ≡ Some (with_bits bits spans)
unfolding elements_in with_bits
elements_complete low high bits [] [] spelled = refl
elements_complete low high bits [] (span ∷ spans) spelled = absurd spelled
elements_complete low high bits (element ∷ elements) [] spelled = absurd spelled
elements_complete low high bits (element ∷ elements) (span ∷ spans) spelled =
    rw (element_complete low high element span spelled.0)
    (elements_complete low high (bit_or bits (bits_between span)) elements spans spelled.1)

-- an asterisk is no list
no_list : (low high : ℕ) (spans : List (ℕ × ℕ)) → ¬ SpellElements low high (elements_of (codes "*")) spans
unfolding elements_in element_in span_in number_before digit_before two_digits_in
no_list low high spans spelled = none-some _ (elements_complete low high 0 (elements_of (codes "*")) spans spelled)

-- the field of an asterisk, and that of a list
abbrev of_star : ℕ → ℕ → Field
of_star low high = record { star = true; bits = bits_between (low, high) }

abbrev of_list : ℕ → Field
of_list bits = record { star = false; bits = bits }

pub field_sound : (low high : ℕ) (text : List ℕ) (field : Field) → field_in low high text ≡ Some field → SpellsField low high text field
unfolding field_in
field_sound low high text field e = go (cond_either _ _ _ _ e)
  where
    go : ((bytes_eq text (codes "*") ≡ true) × (of_star low high ≡ field))
        ⊎ ((bytes_eq text (codes "*") ≡ false) × (option_map of_list (elements_in low high 0 (elements_of text)) ≡ Some field))
        → SpellsField low high text field
    go (inl (same, is)) =
        subst (SpellsField low high text) is (asterisk ((bytes_eq-Decides text (codes "*")).0 same) refl (bits_between-span low high))
    go (inr (other, read)) =
        let found = map_some of_list (elements_in low high 0 (elements_of text)) field read in
        let spans = elements_sound low high 0 (elements_of text) found.0 found.1 in
        let are : AreBitsOf spans.0 found.0 = subst (AreBitsOf spans.0) (sym spans.2) (with_bits-spans spans.0) in
        subst (SpellsField low high text) found.2 (list spans.0 spans.1 refl are)

pub field_complete : (low high : ℕ) (text : List ℕ) (field : Field) → SpellsField low high text field → field_in low high text ≡ Some field
unfolding field_in
field_complete low high text field (asterisk spelled star bits) =
    let same : bits_between (low, high) ≡ field.bits = one_bits ((low, high) ∷ []) _ _ (bits_between-span low high) bits in
    rw (spelled, same, ← star)
field_complete low high text field (list spans spelled star bits) = go (bytes_eq text (codes "*")) refl
  where
    go : (test : Bool) → bytes_eq text (codes "*") ≡ test → field_in low high text ≡ Some field
    go true e = absurd (no_list low high spans
        (subst (λ (t : List ℕ). SpellElements low high (elements_of t) spans) ((bytes_eq-Decides text (codes "*")).0 e) spelled))
    go false e =
        let same : with_bits 0 spans ≡ field.bits = one_bits spans _ _ (with_bits-spans spans) bits in
        rw (e, elements_complete low high 0 (elements_of text) spans spelled, same, ← star)
