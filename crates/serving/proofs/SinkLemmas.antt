-- What is printed and said, one turn after the other.
use Rattle.std.proofs.Common.{◌≡◌, ◌≤◌, ℕ, Bool, true, false, List, [], ◌∷◌, ◌++◌, take, refl, sym, ap, subst, ◌∙◌, inl, inr, arith}
use Rattle.std.specs.Prelude.{Err}
use Rattle.host_calls.specs.Causes.{Rose}
use Rattle.host_calls.specs.declared.fault.SinkFault.TheVariants.{Failed, Memory as NoMemory}
use Rattle.tool_output.specs.Sinks.{IsPutInPart, IsPutOrCut, IsSilent, SinkAt}
use Rattle.tool_output.specs.Ends.{SaysEnd}
use Rattle.tool_output.specs.PutLines.{PutsLines}
use Rattle.tool_output.proofs.EndLemmas.{silent_same}
use Rattle.tool_output.proofs.PutLemmas.{cut_after, cut_longer, part_after, part_of_cut, part_of_put}
use Rattle.host_calls.specs.declared.turn_end.TurnEnd.{TurnEnd}
use Rattle.host_calls.specs.declared.turn_end.TurnEnd.TheVariants.{Done, Busy, FileFault, Damaged, Memory}
use Rattle.serving.specs.Items.{TurnItem}
use Rattle.serving.specs.Lines.{SaysEnds, daemon_name}
use Rattle.serving.specs.Outcomes.{at_a_line, at_the_end}
use Rattle.serving.specs.Serving.{TurnsPrint, PutsUnless}
use Rattle.serving.specs.inside.NextTurn.{PrintsMore}

pub part_of : (output_failed : Bool) (text : List ℕ) (old new : SinkAt) → PutsUnless output_failed text old new → IsPutInPart text old new
part_of false text old new put = part_of_put text old new put
part_of true text old new output_failed = part_of_cut text old new output_failed

-- What is printed after what was printed.

pub more_uncut : (tells : Bool) (text : List ℕ) (output_failed now : Bool) (at : SinkAt) → output_failed ≡ true → now ≡ true
    → PrintsMore tells text output_failed now at at true
more_uncut tells text output_failed now at is same before start prints =
    subst (λ (flag : Bool). TurnsPrint tells at_the_end flag (before ++ text) start at) (sym same) (record {
      later = prints.later;
      rose = λ one. prints.rose is;
      puts = λ known. cut_longer before text start at (subst (λ (flag : Bool). PutsUnless flag before start at) is (prints.puts known));
    })

pub more_cut : (tells : Bool) (text : List ℕ) (output_failed now : Bool) (old new : SinkAt) → output_failed ≡ false → now ≡ true
    → PutsLines tells text old new (Err Failed)
    → PrintsMore tells text output_failed now old new true
more_cut tells text output_failed now old new is same puts before start prints =
    subst (λ (flag : Bool). TurnsPrint tells at_the_end flag (before ++ text) start new) (sym same) (record {
      later = omega (arith, prints.later, puts.later);
      rose = λ one. (let earlier : start.faults ≤ old.faults = prints.later in
          let rose : Rose old.faults new.faults = puts.failed refl in omega arith);
      puts = λ known. cut_after before text start old new
          (subst (λ (flag : Bool). PutsUnless flag before start old) is (prints.puts known)) (puts.puts known);
    })

pub more_part : (tells : Bool) (text : List ℕ) (output_failed now : Bool) (old new : SinkAt) → output_failed ≡ false → now ≡ false
    → PutsLines tells text old new (Err NoMemory)
    → PrintsMore tells text output_failed now old new false
more_part tells text output_failed now old new is same puts before start prints =
    subst (λ (flag : Bool). TurnsPrint tells at_a_line flag (before ++ text) start new) (sym same) (record {
      later = omega (arith, prints.later, puts.later);
      rose = λ one. absurd (cc);
      puts = λ known. part_after before text start old new
          (subst (λ (flag : Bool). PutsUnless flag before start old) is (prints.puts known)) (puts.puts known);
    })

-- where a later line ran out of memory, a prefix of it was printed all the same
pub more_for : (tells : Bool) (text : List ℕ) (output_failed now found : Bool) (old new : SinkAt)
    → PrintsMore tells text output_failed now old new true → PrintsMore tells text output_failed now old new found
more_for tells text output_failed now true old new more before start prints = more before start prints
more_for tells text output_failed now false old new more before start prints =
    let whole : TurnsPrint tells at_the_end now (before ++ text) start new = more before start prints in
    record { later = whole.later; rose = whole.rose; puts = λ known. part_of now (before ++ text) start new (whole.puts known) }

-- What is said.

silent_then : (old mid new : SinkAt) → IsSilent old mid → IsSilent mid new → IsSilent old new
silent_then old mid new first second = record { content = second.content ∙ first.content; later = omega (arith, first.later, second.later) }

-- nothing more was said after the ends
pub ends_silent : (items : List TurnItem) (old mid new : SinkAt) → SaysEnds items old mid → IsSilent mid new → SaysEnds items old new
ends_silent [] old mid new says unchecked = silent_then old mid new says unchecked
ends_silent (item ∷ items) old mid new (between, first, others) unchecked =
    (between, first, ends_silent items between mid new others unchecked)

-- one end more
end_first : (item : TurnItem) (old mid new : SinkAt) → IsSilent old mid → SaysEnd daemon_name item.end mid new
    → SaysEnds (item ∷ []) old new
end_first item old mid new unchecked end = (new, silent_end item.end old mid new unchecked end, silent_same new new refl) where
  put_later : (text : List ℕ) (was is to : SinkAt) → IsSilent was is → IsPutOrCut text is to → IsPutOrCut text was to
  put_later text was is to quiet (inl put) = inl (record {
    content = put.content ∙ ap (λ (before : List ℕ). before ++ text) quiet.content;
    later = omega (arith, quiet.later, put.later);
  })
  put_later text was is to quiet (inr output_failed) = inr (record {
    count = output_failed.count;
    content = output_failed.content ∙ ap (λ (before : List ℕ). before ++ take output_failed.count text) quiet.content;
    later = omega (arith, quiet.later, output_failed.later);
    rose = let before : was.faults ≤ is.faults = quiet.later in let rose : Rose is.faults to.faults = output_failed.rose in omega arith;
  })

  silent_end : (of : TurnEnd) (was is to : SinkAt) → IsSilent was is → SaysEnd daemon_name of is to → SaysEnd daemon_name of was to
  silent_end Done was is to quiet says = silent_then was is to quiet says
  silent_end Busy was is to quiet says = put_later _ was is to quiet says
  silent_end FileFault was is to quiet says = put_later _ was is to quiet says
  silent_end (Damaged damage) was is to quiet says = put_later _ was is to quiet says
  silent_end Memory was is to quiet (inl says) = inl (silent_then was is to quiet says)
  silent_end Memory was is to quiet (inr says) = inr (put_later _ was is to quiet says)

pub ends_more : (items : List TurnItem) (item : TurnItem) (old mid new : SinkAt) → SaysEnds items old mid
    → SaysEnd daemon_name item.end mid new → SaysEnds (items ++ item ∷ []) old new
ends_more [] item old mid new says end = end_first item old mid new says end
ends_more (before ∷ items) item old mid new (between, first, others) end = (between, first, ends_more items item between mid new others end)
