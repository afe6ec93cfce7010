-- Texts put one after another.
use Rattle.std.proofs.Common.{◌≡◌, ◌≤◌, ℕ, Bool, true, List, [], ◌++◌, length, take, drop, refl, sym, ap, ◌∙◌, append-nil, append_assoc, arith}
use Rattle.std.specs.Prelude.{Err, Ok, Result}
use Rattle.std.proofs.Math.Seq.{take-append_seam}
use Rattle.std.proofs.lemmas.List.{take-append-drop}
use Rattle.host_calls.specs.Causes.{HasCause, Rose}
use Rattle.host_calls.specs.Sink.{Puts}
use Rattle.host_calls.specs.declared.fault.SinkFault.{SinkFault}
use Rattle.host_calls.specs.declared.fault.SinkFault.TheVariants.{Failed, Memory}
use Rattle.tool_output.specs.Sinks.{IsCut, IsPut, IsPutInPart, SinkAt}
use Rattle.tool_output.specs.PutLines.{PutsLines, PutsText}

-- What is put after a text that was put.

-- a prefix of the second text after the first is a prefix of both
module _ (first second : List ℕ) (start mid new : SinkAt) (put : IsPut first start mid) where
  joined : (prefix rest : List ℕ) → second ≡ prefix ++ rest → new.content ≡ mid.content ++ prefix
      → new.content ≡ start.content ++ take (length (first ++ prefix)) (first ++ second)
  joined prefix rest split content =
      content
      ∙ ap (λ (before : List ℕ). before ++ prefix) put.content
      ∙ append_assoc start.content first prefix
      ∙ ap (λ (text : List ℕ). start.content ++ text) (sym (take-append_seam (first ++ prefix) rest)
      ∙ ap (λ (text : List ℕ). take (length (first ++ prefix)) text) (append_assoc first prefix rest
      ∙ ap (λ (text : List ℕ). first ++ text) (sym split)))

  pub put_after : IsPut second mid new → IsPut (first ++ second) start new
  put_after after = record {
    content = after.content ∙ ap (λ (before : List ℕ). before ++ second) put.content ∙ append_assoc start.content first second;
    later = omega (arith, put.later, after.later);
  }

  pub part_after : IsPutInPart second mid new → IsPutInPart (first ++ second) start new
  part_after after = record {
    count = length (first ++ take after.count second);
    content = joined (take after.count second) (drop after.count second) (sym (take-append-drop after.count second)) after.content;
    later = omega (arith, put.later, after.later);
  }

  pub cut_after : IsCut second mid new → IsCut (first ++ second) start new
  cut_after after = record {
    count = length (first ++ take after.count second);
    content = joined (take after.count second) (drop after.count second) (sym (take-append-drop after.count second)) after.content;
    later = omega (arith, put.later, after.later);
    rose = let before : start.faults ≤ mid.faults = put.later in let rose : Rose mid.faults new.faults = after.rose in omega arith;
  }

-- what was cut is a prefix of any longer text
pub cut_longer : (text more : List ℕ) (old new : SinkAt) → IsCut text old new → IsCut (text ++ more) old new
cut_longer text more old new cut = record {
  count = length (take cut.count text);
  content =
      cut.content
      ∙ ap (λ (prefix : List ℕ). old.content ++ prefix) (sym (take-append_seam (take cut.count text) (drop cut.count text ++ more))
      ∙ ap (λ (whole : List ℕ). take (length (take cut.count text)) whole)
      (sym (append_assoc (take cut.count text) (drop cut.count text) more)
      ∙ ap (λ (whole : List ℕ). whole ++ more) (take-append-drop cut.count text)));
  later = cut.later;
  rose = cut.rose;
}

pub part_of_put : (text : List ℕ) (old new : SinkAt) → IsPut text old new → IsPutInPart text old new
part_of_put text old new put = record {
  count = length text;
  content = put.content ∙ ap (λ (prefix : List ℕ). old.content ++ prefix) (sym (take-append_seam text [])
      ∙ ap (λ (whole : List ℕ). take (length text) whole) (append-nil text));
  later = put.later;
}

pub part_of_cut : (text : List ℕ) (old new : SinkAt) → IsCut text old new → IsPutInPart text old new
part_of_cut text old new cut = record { count = cut.count; content = cut.content; later = cut.later }

pub nothing_put : (at : SinkAt) → IsPut [] at at
nothing_put at = record { content = sym (append-nil at.content); later = omega arith }

pub none_put : (tells : Bool) (at : SinkAt) (done : Unit {0}) → PutsLines tells [] at at (Ok done)
none_put tells at done = record { later = omega arith; failed = λ is. absurd (cc); puts = λ known. nothing_put at }

-- a prefix of a text is a prefix of any longer one
pub part_longer : (text more : List ℕ) (old new : SinkAt) → IsPutInPart text old new → IsPutInPart (text ++ more) old new
part_longer text more old new part = record {
  count = length (take part.count text);
  content =
      part.content
      ∙ ap (λ (prefix : List ℕ). old.content ++ prefix) (sym (take-append_seam (take part.count text) (drop part.count text ++ more))
      ∙ ap (λ (whole : List ℕ). take (length (take part.count text)) whole)
      (sym (append_assoc (take part.count text) (drop part.count text) more)
      ∙ ap (λ (whole : List ℕ). whole ++ more) (take-append-drop part.count text)));
  later = part.later;
}

-- one line
put_text : (text : List ℕ) (old new : SinkAt) (result : Result (Unit {0}) SinkFault) → old.faults ≤ new.faults →
    HasCause Failed old.faults new.faults result → Puts text old.content new.content result → PutsText text old new result
put_text text old new (Ok done) later cause puts = record { content = puts; later = later }
put_text text old new (Err Failed) later cause puts =
    record { count = puts.0; content = puts.1; later = later; rose = cause.rose refl }
put_text text old new (Err Memory) later cause puts = record { count = 0; content = puts ∙ sym (append-nil _); later = later }

pub put_one : (tells : Bool) (text : List ℕ) (old new : SinkAt) (result : Result (Unit {0}) SinkFault) →
    HasCause Failed old.faults new.faults result → (tells ≡ true → Puts text old.content new.content result) →
    PutsLines tells text old new result
put_one tells text old new result cause puts = record {
  later = cause.later;
  failed = cause.rose;
  puts = λ known. put_text text old new result cause.later cause (puts known);
}
