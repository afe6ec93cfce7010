-- Lines that are put one after another, up to one that could not be put.
use Rattle.std.proofs.Common.{◌≡◌, ◌+◌, ◌<◌, ◌≤◌, ℕ, Bool, List, [], ◌∷◌, ◌++◌, length, take, drop, get_or, refl, sym, ap, subst, ◌∙◌, append-nil, append_assoc, arith}
use Rattle.std.specs.Prelude.{Err, IsErrAnd, Ok, Result}
use Rattle.std.proofs.lemmas.List.{take-append-drop, take_more}
use Rattle.host_calls.specs.Causes.{Rose}
use Rattle.host_calls.specs.declared.fault.SinkFault.{SinkFault}
use Rattle.host_calls.specs.declared.fault.SinkFault.TheVariants.{Failed, Memory}
use Rattle.tool_output.specs.Sinks.{IsCut, IsPut, IsPutInPart, SinkAt}
use Rattle.tool_output.specs.PutLines.{PutsLines, PutsText, joined_lines}
use Rattle.tool_output.proofs.PutLemmas.{cut_after, cut_longer, part_after, part_longer, put_after}

lines_join : {T : Type 0} (line : T → List ℕ) (prefix later : List T) →
    joined_lines line (prefix ++ later) ≡ joined_lines line prefix ++ joined_lines line later
lines_join line [] later = refl
lines_join line (known ∷ prefix) later =
    ap (λ (rest : List ℕ). line known ++ rest) (lines_join line prefix later)
    ∙ sym (append_assoc (line known) (joined_lines line prefix) (joined_lines line later))

module _ {T : Type 0} (tells : Bool) (line : T → List ℕ) (lines : List T) (index : ℕ) (item : T) (old mid new : SinkAt)
    (done : Unit {0}) (inside : index < length lines) (is : item ≡ get_or lines index item)
    (first : PutsLines tells (joined_lines line (take index lines)) old mid (Ok done)) where
  prefix : joined_lines line (take (index + 1) lines) ≡ joined_lines line (take index lines) ++ line item
  prefix =
      ap (λ (some : List T). joined_lines line some) (take_more lines index item inside)
      ∙ lines_join line (take index lines) (get_or lines index item ∷ [])
      ∙ ap (λ (text : List ℕ). joined_lines line (take index lines) ++ text) (append-nil (line (get_or lines index item)))
      ∙ ap (λ (some : T). joined_lines line (take index lines) ++ line some) (sym is)

  whole : joined_lines line lines ≡ (joined_lines line (take index lines) ++ line item) ++ joined_lines line (drop (index + 1) lines)
  whole =
      ap (λ (some : List T). joined_lines line some) (sym (take-append-drop (index + 1) lines))
      ∙ lines_join line (take (index + 1) lines) (drop (index + 1) lines)
      ∙ ap (λ (text : List ℕ). text ++ joined_lines line (drop (index + 1) lines)) prefix

  -- one more line
  pub one_more : (value : Unit {0}) → PutsLines tells (line item) mid new (Ok value) →
      PutsLines tells (joined_lines line (take (index + 1) lines)) old new (Ok done)
  one_more value second = record {
    later = omega (arith, first.later, second.later);
    failed = λ is. absurd (cc);
    puts = λ known. subst (λ (text : List ℕ). IsPut text old new) (sym prefix)
        (put_after (joined_lines line (take index lines)) (line item) old mid new (first.puts known) (second.puts known));
  }

  stopped_text : (fault : SinkFault) → IsPut (joined_lines line (take index lines)) old mid → PutsText (line item) mid new (Err fault) →
      PutsText (joined_lines line lines) old new (Err fault)
  stopped_text Failed before after = subst (λ (text : List ℕ). IsCut text old new) (sym whole)
      (cut_longer (joined_lines line (take index lines) ++ line item) (joined_lines line (drop (index + 1) lines)) old new
      (cut_after (joined_lines line (take index lines)) (line item) old mid new before after))
  stopped_text Memory before after = subst (λ (text : List ℕ). IsPutInPart text old new) (sym whole)
      (part_longer (joined_lines line (take index lines) ++ line item) (joined_lines line (drop (index + 1) lines)) old new
      (part_after (joined_lines line (take index lines)) (line item) old mid new before after))

  stopped_here : (fault : SinkFault) → PutsLines tells (line item) mid new (Err fault) →
      PutsLines tells (joined_lines line lines) old new (Err fault)
  stopped_here fault second = record {
    later = omega (arith, first.later, second.later);
    failed = λ is. (let earlier : old.faults ≤ mid.faults = first.later in
        let rose : Rose mid.faults new.faults = second.failed (cc) in omega arith);
    puts = λ known. stopped_text fault (first.puts known) (second.puts known);
  }

  -- a line that could not be put
  pub stopped_at_line : (fault : SinkFault) (result : Result (Unit {0}) SinkFault) → IsErrAnd result (λ other. other ≡ fault) →
      PutsLines tells (line item) mid new (Err fault) → PutsLines tells (joined_lines line lines) old new result
  stopped_at_line fault (Ok value) same second = absurd same
  stopped_at_line fault (Err other) same second =
      subst (λ (some : SinkFault). PutsLines tells (joined_lines line lines) old new (Err some)) (sym same) (stopped_here fault second)
