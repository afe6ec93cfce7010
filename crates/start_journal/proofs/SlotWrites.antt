-- A mark that is written into the first free slot: the slot after its gate, and then the gate.
use Rattle.std.proofs.Common.{◌≡◌, ◌⊎◌, ℕ, ◌+◌, ◌-◌, ◌*◌, ◌<◌, ◌≤◌, true, false, List, [], ◌∷◌, length, take, drop, sym, ap, subst, ◌∙◌, refl, inl, inr, arith, get_or-take}
use Rattle.std.specs.Prelude.{◌≢◌, ◌==◌, Option, Some, None, slice_index}
use Rattle.std.proofs.lemmas.Bool.{and_from, and_parts}
use Rattle.std.proofs.lemmas.Bool.Decides.{eqb_tells, nat_tests}
use Rattle.std.proofs.lemmas.List.{ext_get_or, get_or-drop, length-drop, length-take-le}
use Rattle.std.proofs.lemmas.List.Folds.{list_all-append}
use Rattle.host_calls.specs.Directory.{overwritten}
use Rattle.start_journal.specs.declared.mark.Mark.{Mark}
use Rattle.start_journal.specs.declared.mark.Mark.TheVariants.{Removed, Started, Ended, Interrupted, Forgotten, Batch}
use Rattle.start_journal.specs.JournalChange.{GivesReadJournal, added}
use Rattle.start_journal.specs.FirstFault.{GivesJournal, IsRightJournal, slot_at}
use Rattle.start_journal.specs.Journals.{JournalRead, are_drawn, is_drawn}
use Rattle.start_journal.specs.Marks.{IsLegalAfter}
use Rattle.start_journal.specs.Slots.{SpellsMark}
use Rattle.start_journal.proofs.ByteRanges.{over_before, over_after, over_inside, over_long}
use Rattle.start_journal.proofs.FirstFaults.{journals_are_given}
use Rattle.start_journal.proofs.JournalPrefixes.{drawn_all, drawn_names}
use Rattle.start_journal.proofs.SlotChanges.{DiffersInSlot, differs_then, index_slot, right_closed, right_open, slot_long}

-- The bytes of a journal that gives marks.

-- a mark's number was drawn where a greater one was the last
drawn_later : (last more : ℕ) (mark : Mark) → last ≤ more → is_drawn last mark ≡ true → is_drawn more mark ≡ true
drawn_later last more mark later drawn =
    drawn_all more mark (λ number named. (let most : number ≤ last = drawn_names last number mark drawn named in omega arith))

all_later : (last more : ℕ) (marks : List Mark) → last ≤ more → are_drawn last marks ≡ true → are_drawn more marks ≡ true
all_later last more [] later drawn = refl
all_later last more (mark ∷ marks) later drawn =
    let both = and_parts (is_drawn last mark) (are_drawn last marks) drawn in
    and_from (is_drawn more mark) (are_drawn more marks) (drawn_later last more mark later both.0) (all_later last more marks later both.1)

-- some number is at least each that a mark names
some_last : (mark : Mark) → (last : ℕ) × (is_drawn last mark ≡ true)
some_last (Removed number) = (number, grind (arith, nat_tests))
some_last (Started number queue second) = (number, grind (arith, nat_tests))
some_last (Ended number ending) = (number, grind (arith, nat_tests))
some_last (Interrupted number) = (number, grind (arith, nat_tests))
some_last (Forgotten number) = (number, grind (arith, nat_tests))
some_last (Batch second) = (0, refl)

some_last_of_all : (marks : List Mark) → (last : ℕ) × (are_drawn last marks ≡ true)
some_last_of_all [] = (0, refl)
some_last_of_all (mark ∷ marks) =
    let one = some_last mark in
    let rest = some_last_of_all marks in (
      one.0 + rest.0,
      and_from (is_drawn (one.0 + rest.0) mark) (are_drawn (one.0 + rest.0) marks)
          (drawn_later one.0 (one.0 + rest.0) mark (omega arith) one.1) (all_later rest.0 (one.0 + rest.0) marks (omega arith) rest.1),
    )

-- the content of a journal with a free slot
pub record HasBytes (content : Option (List ℕ)) (journal : JournalRead) : Type 0 where
  pub bytes : List ℕ
  pub is : content ≡ Some bytes
  pub long : length bytes ≡ 32 * (length journal.marks + journal.free)

pub has_bytes : (content : Option (List ℕ)) (journal : JournalRead) → 1 ≤ journal.free → GivesReadJournal content journal
    → HasBytes content journal
has_bytes content journal free gives = by_content content refl ((journals_are_given some.0 content journal).0 (gives some.0 some.1)) where
  some : (last : ℕ) × (are_drawn last journal.marks ≡ true)
  some = some_last_of_all journal.marks

  by_content : (found : Option (List ℕ)) → content ≡ found → GivesJournal some.0 found journal → HasBytes content journal
  by_content None is given = absurd (let none : journal.free ≡ 0 = ap (λ (read : JournalRead). read.free) given in omega arith)
  by_content (Some bytes) is given = record { bytes = bytes; is = is; long = given.all }

-- The slot, written in two parts.
module _ (journal : JournalRead) (mark : Mark) (slot bytes : List ℕ) (free : 1 ≤ journal.free)
    (legal : IsLegalAfter journal.marks mark) (spelled : SpellsMark slot mark) (gives : GivesReadJournal (Some bytes) journal)
    (long : length bytes ≡ 32 * (length journal.marks + journal.free)) where
  abbrev count : ℕ
  count = length journal.marks

  abbrev rest : List ℕ
  rest = take 31 (drop 1 slot)

  -- the journal has no fault, whatever number was drawn last after those that it names
  right : (last : ℕ) → are_drawn last journal.marks ≡ true → IsRightJournal last bytes journal
  right last drawn = (journals_are_given last (Some bytes) journal).0 (gives last drawn)

  -- its first free slot is closed
  closed_there : (last : ℕ) → are_drawn last journal.marks ≡ true → ¬ (slice_index bytes (32 * count) ≡ 43)
  closed_there last drawn gate =
      (right last drawn).slots.closed count (omega arith) (omega arith)
      (record {
        whole = omega arith;
        gate = index_slot bytes count 0 (omega arith)
            ∙ ap (slice_index bytes) (let there : 32 * count + 0 ≡ 32 * count = omega arith in there) ∙ gate;
      })

  -- with any bytes after its gate it is closed still
  module _ (part : List ℕ) (part_long : length part ≡ 31) where
    abbrev half : List ℕ
    half = overwritten bytes (32 * count + 1) part

    half_within : 32 * count + 1 + length part ≤ length bytes
    half_within = omega arith

    pub half_differs : DiffersInSlot count bytes half
    half_differs = record {
      counted = over_long bytes (32 * count + 1) part half_within;
      before = λ at early. over_before bytes (32 * count + 1) part half_within at (omega arith);
      after = λ at late. over_after bytes (32 * count + 1) part half_within at (omega arith);
    }

    pub half_gives : GivesReadJournal (Some half) journal
    half_gives = λ last drawn. (journals_are_given last (Some half) journal).1
        (right_closed last bytes half journal (right last drawn) free half_differs (λ gate.
        closed_there last drawn (sym (over_before bytes (32 * count + 1) part half_within (32 * count) (omega arith))
        ∙ sym (ap (slice_index half) (let there : 32 * count + 0 ≡ 32 * count = omega arith in there))
        ∙ sym (index_slot half count 0 (omega arith)) ∙ gate)))

    -- and with any byte at its gate it is closed, or its gate is open
    module _ (gate : List ℕ) (gate_long : length gate ≡ 1) where
      abbrev whole : List ℕ
      whole = overwritten half (32 * count) gate

      whole_within : 32 * count + length gate ≤ length half
      whole_within = omega (arith, half_differs.counted)

      whole_differs : DiffersInSlot count bytes whole
      whole_differs = differs_then count bytes half whole half_differs (record {
        counted = over_long half (32 * count) gate whole_within;
        before = λ at early. over_before half (32 * count) gate whole_within at (omega arith);
        after = λ at late. over_after half (32 * count) gate whole_within at (omega arith);
      })

      -- the gate of the slot
      gate_there : slice_index (slot_at whole count) 0 ≡ slice_index gate 0
      gate_there =
          index_slot whole count 0 (omega arith)
          ∙ over_inside half (32 * count) gate whole_within (32 * count + 0) (omega arith) (omega arith)
          ∙ ap (slice_index gate) (let none : 32 * count + 0 - 32 * count ≡ 0 = omega arith in none)

      pub closed_gives : ¬ (slice_index gate 0 ≡ 43) → GivesReadJournal (Some whole) journal
      closed_gives closed = λ last drawn. (journals_are_given last (Some whole) journal).1
          (right_closed last bytes whole journal (right last drawn) free whole_differs (λ is_open. closed (sym gate_there ∙ is_open)))

      -- a byte of the slot after its gate
      part_there : (at : ℕ) → 1 ≤ at → at < 32 → slice_index (slot_at whole count) at ≡ slice_index part (at - 1)
      part_there at after inside =
          index_slot whole count at inside
          ∙ over_after half (32 * count) gate whole_within (32 * count + at) (omega arith)
          ∙ over_inside bytes (32 * count + 1) part half_within (32 * count + at) (omega arith) (omega arith)
          ∙ ap (slice_index part) (let there : 32 * count + at - (32 * count + 1) ≡ at - 1 = omega arith in there)

  -- the slot after its gate has 31 bytes
  pub rest_long : length rest ≡ 31
  rest_long = length-take-le 31 (drop 1 slot) (omega (arith, length-drop 1 slot, spelled.fields.counted))

  -- with the slot after its gate and the gate open, the slot is that of the mark
  module _ (gate : List ℕ) (gate_long : length gate ≡ 1) (opened : slice_index gate 0 ≡ 43) where
    abbrev all : List ℕ
    all = whole rest rest_long gate gate_long

    slot_there : slot_at all count ≡ slot
    slot_there =
        let as_long : length (slot_at all count) ≡ 32 =
        slot_long all count (omega (arith, (whole_differs rest rest_long gate gate_long).counted)) in
        ext_get_or 0 (slot_at all count) slot (as_long ∙ sym spelled.fields.counted)
        (λ at inside. by_place at (omega (arith, inside, as_long)) (eqb_tells at 0)) where
          by_place : (at : ℕ) → at < 32 → ((at == 0) ≡ true) × (at ≡ 0) ⊎ ((at == 0) ≡ false) × (at ≢ 0)
              → slice_index (slot_at all count) at ≡ slice_index slot at
          by_place at early (inl first) =
              ap (slice_index (slot_at all count)) first.1 ∙ gate_there rest rest_long gate gate_long ∙ opened ∙ sym spelled.fields.gate
              ∙ ap (slice_index slot) (sym first.1)
          by_place at early (inr after) =
              let more : 1 ≤ at = (let some : ¬ (at ≡ 0) = after.1 in omega arith) in
              let there : 1 + (at - 1) ≡ at = omega arith in
              part_there rest rest_long gate gate_long at more early
              ∙ get_or-take 31 (drop 1 slot) (at - 1) 0 (omega arith)
              ∙ get_or-drop 1 slot (at - 1) 0
              ∙ ap (slice_index slot) there

    pub open_gives : GivesReadJournal (Some all) (added journal mark)
    open_gives = λ last drawn.
        let both : (are_drawn last journal.marks ≡ true) × (are_drawn last (mark ∷ []) ≡ true) =
        and_parts (are_drawn last journal.marks) (are_drawn last (mark ∷ []))
        (sym (list_all-append (is_drawn last) journal.marks (mark ∷ [])) ∙ drawn) in
        let one : (is_drawn last mark ≡ true) × (true ≡ true) = and_parts (is_drawn last mark) true both.1 in
        (journals_are_given last (Some all) (added journal mark)).1
        (right_open last bytes all journal (right last both.0) free (whole_differs rest rest_long gate gate_long) mark
        (subst (λ list. SpellsMark list mark) (sym slot_there) spelled) legal one.0)
