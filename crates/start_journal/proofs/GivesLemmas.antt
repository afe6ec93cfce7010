-- A journal that was read once gives the same wherever its numbers were drawn.
use Rattle.std.proofs.Common.{◌≡◌, ℕ, ◌+◌, ◌*◌, ◌/◌, ◌%◌, Bool, true, false, List, [], ◌∷◌, ◌++◌, Option, Some, None, length, sym, ap, ◌∙◌, refl}
use Rattle.std.specs.Prelude.{◌==◌, ◌&&◌, Result, Ok, Err, slice_index, if◌then◌else◌}
use Rattle.std.specs.List.{list_all}
use Rattle.std.specs.Simd.{first_chunks}
use Rattle.host_calls.specs.declared.damage.Damage.{Damage}
use Rattle.start_journal.specs.declared.mark.Mark.{Mark}
use Rattle.start_journal.specs.Journals.{journal_file, GivesMarks, JournalRead, all_slots, are_drawn, go_on, is_drawn, is_legal_after, journal_in, nothing_read, one_slot, open_slot, whole_journal, with_slot}
use Rattle.host_calls.specs.Damages.{damage_at}
use Rattle.start_journal.specs.SlotBytes.{mark_in, right_prefix}
use Rattle.std.proofs.lemmas.Bool.{and_from, and_parts}

-- each of a list and one more
all_of_more : (test : Mark → Bool) (marks : List Mark) (mark : Mark) → list_all test (marks ++ mark ∷ []) ≡ true
    → (list_all test marks ≡ true) × (test mark ≡ true)
all_of_more test [] mark all = (refl, (and_parts _ _ all).0)
all_of_more test (first ∷ later) mark all =
    let tests : (test first ≡ true) × (list_all test (later ++ mark ∷ []) ≡ true) = and_parts _ _ all in
    let rest : (list_all test later ≡ true) × (test mark ≡ true) = all_of_more test later mark tests.1 in
    (and_from (test first) _ tests.0 rest.0, rest.1)

-- what a slot gave is given again
record IsAgain (other : ℕ) (read next : JournalRead) (slot : List ℕ) : Type 0 where
  same : one_slot other read slot ≡ Ok next
  drawn : are_drawn other read.marks ≡ true

one_again : (last other : ℕ) (read next : JournalRead) (slot : List ℕ) → one_slot last read slot ≡ Ok next
    → are_drawn other next.marks ≡ true → IsAgain other read next slot
one_again last other read next slot answer drawn = by_gate (slice_index slot 0 == 43) refl where
  opened : ℕ → Result JournalRead ℕ
  opened limit = open_slot limit read (mark_in slot) (right_prefix slot)

  whole : (limit : ℕ) (gate free : Bool) → (slice_index slot 0 == 43) ≡ gate → (read.free == 0) ≡ free
      → one_slot limit read slot ≡ (if gate then (if free then opened limit else Err 0) else Ok (with_slot read None))
  whole limit gate free of_gate of_free =
      ap (λ b. if b then (if read.free == 0 then opened limit else Err 0) else Ok (with_slot read None)) of_gate
      ∙ ap (λ b. if gate then (if b then opened limit else Err 0) else Ok (with_slot read None)) of_free

  by_tests : (mark : Mark) (pass : Bool) → (slice_index slot 0 == 43) ≡ true → (read.free == 0) ≡ true → mark_in slot ≡ Some mark
      → (is_legal_after read.marks mark && is_drawn last mark) ≡ pass → open_slot last read (Some mark) (right_prefix slot) ≡ Ok next
      → IsAgain other read next slot
  by_tests mark true gate free found tests is =
      let parts : (is_legal_after read.marks mark ≡ true) × (is_drawn last mark ≡ true) = and_parts _ _ tests in
      let took : Ok (with_slot read (Some mark)) ≡ Ok next =
      sym (ap (λ b. if b then Ok (with_slot read (Some mark)) else Err 0) tests) ∙ is in
      let same : with_slot read (Some mark) ≡ next = cc in
      let of_next : are_drawn other (read.marks ++ mark ∷ []) ≡ true = ap (λ r. are_drawn other r.marks) same ∙ drawn in
      let rest : (are_drawn other read.marks ≡ true) × (is_drawn other mark ≡ true) =
      all_of_more (is_drawn other) read.marks mark of_next in
      record {
        same = whole other true true gate free
            ∙ ap (λ m. open_slot other read m (right_prefix slot)) found
            ∙ ap (λ b. if b then Ok (with_slot read (Some mark)) else Err 0) (and_from _ _ parts.0 rest.1)
            ∙ took;
        drawn = rest.0;
      }
  by_tests mark false gate free found tests is =
      let bad : Result JournalRead ℕ = Err 0 in
      let wrong : bad ≡ Ok next = sym (ap (λ b. if b then Ok (with_slot read (Some mark)) else Err 0) tests) ∙ is in
      cc

  by_mark : (found : Option Mark) → (slice_index slot 0 == 43) ≡ true → (read.free == 0) ≡ true → mark_in slot ≡ found
      → open_slot last read found (right_prefix slot) ≡ Ok next → IsAgain other read next slot
  by_mark None gate free is_none is = cc
  by_mark (Some mark) gate free found is = by_tests mark (is_legal_after read.marks mark && is_drawn last mark) gate free found refl is

  by_free : (free : Bool) → (slice_index slot 0 == 43) ≡ true → (read.free == 0) ≡ free → IsAgain other read next slot
  by_free true gate free = by_mark (mark_in slot) gate free refl (sym (whole last true true gate free) ∙ answer)
  by_free false gate free =
      let bad : Result JournalRead ℕ = Err 0 in
      let wrong : bad ≡ Ok next = sym (whole last true false gate free) ∙ answer in
      cc

  by_gate : (gate : Bool) → (slice_index slot 0 == 43) ≡ gate → IsAgain other read next slot
  by_gate true gate = by_free (read.free == 0) gate refl
  by_gate false gate =
      let took : Ok (with_slot read None) ≡ Ok next = sym (whole last false (read.free == 0) gate refl) ∙ answer in
      let same : with_slot read None ≡ next = cc in
      record {
        same = whole other false (read.free == 0) gate refl ∙ took;
        drawn = ap (λ r. are_drawn other r.marks) same ∙ drawn;
      }

-- and what all slots gave
record AreAgain (other offset : ℕ) (read more : JournalRead) (slots : List (List ℕ)) : Type 0 where
  same : all_slots other offset read slots ≡ Ok more
  drawn : are_drawn other read.marks ≡ true

all_again : (last other offset : ℕ) (read more : JournalRead) (slots : List (List ℕ)) → all_slots last offset read slots ≡ Ok more
    → are_drawn other more.marks ≡ true → AreAgain other offset read more slots
all_again last other offset read more [] answer drawn =
    let same : read ≡ more = cc in
    record { same = ap Ok same; drawn = ap (λ r. are_drawn other r.marks) same ∙ drawn }
all_again last other offset read more (slot ∷ later) answer drawn =
    by_one (λ next is. all_again last other (offset + 32) next more later is drawn) (one_slot last read slot) refl
  where
    by_one : ((next : JournalRead) → all_slots last (offset + 32) next later ≡ Ok more → AreAgain other (offset + 32) next more later)
        → (one : Result JournalRead ℕ) → one_slot last read slot ≡ one → AreAgain other offset read more (slot ∷ later)
    by_one rest (Ok next) here =
        let again : AreAgain other (offset + 32) next more later =
        rest next (sym (ap (go_on offset (λ r. all_slots last (offset + 32) r later)) here) ∙ answer) in
        let one : IsAgain other read next slot = one_again last other read next slot here again.drawn in
        record {
          same = ap (go_on offset (λ r. all_slots other (offset + 32) r later)) one.same ∙ again.same;
          drawn = one.drawn;
        }
    by_one rest (Err place) here =
        let bad : Result JournalRead ℕ = Err (offset + place) in
        let wrong : bad ≡ Ok more = sym (ap (go_on offset (λ r. all_slots last (offset + 32) r later)) here) ∙ answer in
        cc

-- a journal that was read gives its marks
pub recalled_gives : (last : ℕ) (content : Option (List ℕ)) (read : JournalRead) → journal_in last content ≡ Ok read
    → GivesMarks content read.marks read.free
unfolding journal_in
recalled_gives last None read answer = λ other drawn. answer
recalled_gives last (Some bytes) read answer =
    λ other drawn. by_slots other drawn (all_slots last 0 nothing_read (first_chunks 32 (length bytes / 32) bytes)) refl
  where
    by_rest : (other : ℕ) (found : JournalRead) (rest : Bool) → (length bytes % 32 == 0) ≡ rest → are_drawn other read.marks ≡ true
        → all_slots last 0 nothing_read (first_chunks 32 (length bytes / 32) bytes) ≡ Ok found → whole_journal bytes (Ok found) ≡ Ok read
        → journal_in other (Some bytes) ≡ Ok read
    by_rest other found true none drawn is whole =
        let took : Ok found ≡ Ok read =
        sym (ap (λ b. if b then Ok found else Err (damage_at journal_file bytes (length bytes / 32 * 32))) none) ∙ whole in
        let same : found ≡ read = cc in
        let again : AreAgain other 0 nothing_read read (first_chunks 32 (length bytes / 32) bytes) =
        all_again last other 0 nothing_read read (first_chunks 32 (length bytes / 32) bytes) (is ∙ ap Ok same) drawn in
        ap (whole_journal bytes) again.same
        ∙ ap (λ b. if b then Ok read else Err (damage_at journal_file bytes (length bytes / 32 * 32))) none
    by_rest other found false some drawn is whole =
        let bad : Result JournalRead Damage = Err (damage_at journal_file bytes (length bytes / 32 * 32)) in
        let wrong : bad ≡ Ok read =
        sym (ap (λ b. if b then Ok found else Err (damage_at journal_file bytes (length bytes / 32 * 32))) some) ∙ whole in
        cc

    by_slots : (other : ℕ) → are_drawn other read.marks ≡ true → (found : Result JournalRead ℕ)
        → all_slots last 0 nothing_read (first_chunks 32 (length bytes / 32) bytes) ≡ found → journal_in other (Some bytes) ≡ Ok read
    by_slots other drawn (Ok found) is =
        by_rest other found (length bytes % 32 == 0) refl drawn is (sym (ap (whole_journal bytes) is) ∙ answer)
    by_slots other drawn (Err offset) is =
        let bad : Result JournalRead Damage = Err (damage_at journal_file bytes offset) in
        let wrong : bad ≡ Ok read = sym (ap (whole_journal bytes) is) ∙ answer in
        cc
