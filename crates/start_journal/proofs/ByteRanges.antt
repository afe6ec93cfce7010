-- A list of which a range is written over, byte by byte.
use Rattle.std.proofs.Common.{◌≡◌, ℕ, ◌+◌, ◌-◌, ◌<◌, ◌≤◌, List, ◌++◌, length, take, drop, sym, ap, ◌∙◌, arith, get_or-take, append_assoc}
use Rattle.std.specs.Prelude.{slice_index}
use Rattle.std.proofs.Math.ListN.{get_or-append}
use Rattle.std.proofs.lemmas.List.{drop-drop, get_or-append_right, get_or-drop, length-append, length-drop, length-take, length-take-le, take-append-drop}
use Rattle.host_calls.specs.Directory.{overwritten}

module _ (old : List ℕ) (offset : ℕ) (part : List ℕ) (within : offset + length part ≤ length old) where
  -- what is before the range is as long as its offset, and what is before its end too
  prefix_long : length (take offset old) ≡ offset
  prefix_long = length-take-le offset old (omega arith)

  both_long : length (take offset old ++ part) ≡ offset + length part
  both_long = length-append (take offset old) part ∙ ap (λ n. n + length part) prefix_long

  -- the list is as long as before
  pub over_long : length (overwritten old offset part) ≡ length old
  over_long = simp (length-append, length-take, length-drop) (omega arith)

  -- before the range it has the old bytes
  pub over_before : (at : ℕ) → at < offset → slice_index (overwritten old offset part) at ≡ slice_index old at
  over_before at before =
      get_or-append (take offset old ++ part) (drop (offset + length part) old) 0 at (omega (arith, both_long))
      ∙ get_or-append (take offset old) part 0 at (omega (arith, prefix_long))
      ∙ get_or-take offset old at 0 before

  -- in the range the new ones
  pub over_inside : (at : ℕ) → offset ≤ at → at < offset + length part
      → slice_index (overwritten old offset part) at ≡ slice_index part (at - offset)
  over_inside at after before =
      get_or-append (take offset old ++ part) (drop (offset + length part) old) 0 at (omega (arith, both_long))
      ∙ get_or-append_right (take offset old) part offset at 0 prefix_long after

  -- and after it the old ones again
  pub over_after : (at : ℕ) → offset + length part ≤ at → slice_index (overwritten old offset part) at ≡ slice_index old at
  over_after at after =
      let there : offset + length part + (at - (offset + length part)) ≡ at = omega arith in
      get_or-append_right (take offset old ++ part) (drop (offset + length part) old) (offset + length part) at 0 both_long after
      ∙ get_or-drop (offset + length part) old (at - (offset + length part)) 0
      ∙ ap (slice_index old) there

-- a range that gets its own bytes
pub over_own : (old : List ℕ) (offset count : ℕ) → offset + count ≤ length old → overwritten old offset (take count (drop offset old)) ≡ old
over_own old offset count within =
    let own_long : length (take count (drop offset old)) ≡ count =
    length-take-le count (drop offset old) (omega (arith, length-drop offset old)) in
    ap (λ n. take offset old ++ take count (drop offset old) ++ drop (offset + n) old) own_long
    ∙ append_assoc (take offset old) (take count (drop offset old)) (drop (offset + count) old)
    ∙ ap (λ rest. take offset old ++ (take count (drop offset old) ++ rest)) (sym (drop-drop count offset old))
    ∙ ap (λ rest. take offset old ++ rest) (take-append-drop count (drop offset old))
    ∙ take-append-drop offset old
