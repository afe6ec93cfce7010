-- The first fault of a journal is the one that recovery answers; without a fault the marks that are taken are all.
use Rattle.std.proofs.Common.{◌≡◌, ◌≤◌, ℕ, ◌+◌, ◌*◌, ◌/◌, ◌%◌, Bool, true, false, List, [], ◌∷◌, ◌++◌, Option, Some, None, length, sym, ap, subst, ◌∙◌, refl, arith, append_assoc, eq-eqb}
use Rattle.std.specs.Prelude.{◌==◌, ◌&&◌, Result, Ok, Err, map, slice_index, if◌then◌else◌}
use Rattle.std.proofs.lemmas.Bool.{and_from, and_parts, eqb-true}
use Rattle.std.proofs.lemmas.Bool.Decides.{nat_tests}
use Rattle.std.proofs.lemmas.List.{append-nil}
use Rattle.host_calls.specs.Damages.{damage_at}
use Rattle.start_journal.specs.declared.mark.Mark.{Mark}
use Rattle.start_journal.specs.declared.mark.Mark.TheVariants.{Removed, Started, Ended, Interrupted, Forgotten, Batch}
use Rattle.start_journal.specs.declared.take_marks.TakenMark.{TakenMark}
use Rattle.start_journal.specs.Journals.{JournalRead, all_slots, are_drawn, go_on, is_drawn, is_legal_after, journal_file, journal_in, nothing_read, one_slot, open_slot, whole_journal, with_free, with_mark}
use Rattle.start_journal.specs.SlotBytes.{mark_in, right_prefix}
use Rattle.start_journal.specs.Taken.{faults_in, free_after, journal_faults, legal_mark, marks_of, marks_taken, offset_of, place_of_fault, read_past, rest_fault, slot_faults, slots_of, taken_at, taken_from, taken_of, with_taken}
use Rattle.start_journal.proofs.ByteLemmas.{spells}
use Rattle.start_journal.proofs.ReadLemmas.{all_read, none_yet}
use Rattle.spool_faults.specs.Laws.{unless_faulty}

-- what is read of slots, past their faults
abbrev pub past_all : JournalRead → List (List ℕ) → JournalRead
past_all read [] = read
past_all read (slot ∷ later) = past_all (read_past read slot) later

-- the value, or the first offset
abbrev pub first_or : JournalRead → List ℕ → Result JournalRead ℕ
first_or read [] = Ok read
first_or read (fault ∷ later) = Err fault

-- how a slot without a fault reads
pub data SlotRead (bound : ℕ) (read more : JournalRead) (slot : List ℕ) : Type 0 where
  -- it is closed, and gives no mark
  closed : (slice_index slot 0 == 43) ≡ false → mark_in slot ≡ None → more ≡ with_free read → SlotRead bound read more slot
  -- it is open after no closed one, and gives a mark
  marked : (mark : Mark) → (slice_index slot 0 == 43) ≡ true → mark_in slot ≡ Some mark → read.free ≡ 0
      → is_legal_after read.marks mark ≡ true → is_drawn bound mark ≡ true → more ≡ with_mark read mark → SlotRead bound read more slot

-- a closed slot spells no mark
closed_none : (slot : List ℕ) → (slice_index slot 0 == 43) ≡ false → mark_in slot ≡ None
closed_none slot gate = by_mark (mark_in slot) refl where
  by_mark : (found : Option Mark) → mark_in slot ≡ found → mark_in slot ≡ None
  by_mark None is = is
  by_mark (Some mark) is =
      let impossible : true ≡ false = sym (eq-eqb (slice_index slot 0) 43 (spells slot mark is).fields.gate) ∙ gate in
      cc

pub slot_read : (bound : ℕ) (read more : JournalRead) (slot : List ℕ) → one_slot bound read slot ≡ Ok more → SlotRead bound read more slot
slot_read bound read more slot answer = by_gate (slice_index slot 0 == 43) refl where
  one : Result JournalRead ℕ
  one = if read.free == 0 then open_slot bound read (mark_in slot) (right_prefix slot) else Err 0

  by_tests : (mark : Mark) (pass : Bool) → (slice_index slot 0 == 43) ≡ true → (read.free == 0) ≡ true → mark_in slot ≡ Some mark
      → (is_legal_after read.marks mark && is_drawn bound mark) ≡ pass → open_slot bound read (Some mark) (right_prefix slot) ≡ Ok more
      → SlotRead bound read more slot
  by_tests mark true gate free found tests opened =
      let parts : (is_legal_after read.marks mark ≡ true) × (is_drawn bound mark ≡ true) = and_parts _ _ tests in
      let whole : Ok (with_mark read mark) ≡ Ok more = sym (ap (λ b. if b then Ok (with_mark read mark) else Err 0) tests) ∙ opened in
      let same : with_mark read mark ≡ more = cc in
      marked mark gate found (eqb-true _ _ free) parts.0 parts.1 (sym same)
  by_tests mark false gate free found tests opened =
      let bad : Result JournalRead ℕ = Err 0 in
      let whole : bad ≡ Ok more = sym (ap (λ b. if b then Ok (with_mark read mark) else Err 0) tests) ∙ opened in
      cc

  by_mark : (found : Option Mark) → (slice_index slot 0 == 43) ≡ true → (read.free == 0) ≡ true → mark_in slot ≡ found
      → open_slot bound read found (right_prefix slot) ≡ Ok more → SlotRead bound read more slot
  by_mark None gate free is_none opened = cc
  by_mark (Some mark) gate free found opened =
      by_tests mark (is_legal_after read.marks mark && is_drawn bound mark) gate free found refl opened

  by_free : (none : Bool) → (slice_index slot 0 == 43) ≡ true → (read.free == 0) ≡ none → one ≡ Ok more → SlotRead bound read more slot
  by_free true gate none opened = by_mark (mark_in slot) gate none refl
      (sym (ap (λ b. if b then open_slot bound read (mark_in slot) (right_prefix slot) else Err 0) none) ∙ opened)
  by_free false gate none opened =
      let bad : Result JournalRead ℕ = Err 0 in
      let whole : bad ≡ Ok more =
      sym (ap (λ b. if b then open_slot bound read (mark_in slot) (right_prefix slot) else Err 0) none) ∙ opened in
      cc

  by_gate : (gate : Bool) → (slice_index slot 0 == 43) ≡ gate → SlotRead bound read more slot
  by_gate true gate = by_free (read.free == 0) gate refl (sym (ap (λ b. if b then one else Ok (with_free read)) gate) ∙ answer)
  by_gate false gate =
      let whole : Ok (with_free read) ≡ Ok more = sym (ap (λ b. if b then one else Ok (with_free read)) gate) ∙ answer in
      let same : with_free read ≡ more = cc in
      closed gate (closed_none slot gate) (sym same)

-- reading past such a slot reads it
pub past_is : (bound : ℕ) (read more : JournalRead) (slot : List ℕ) → SlotRead bound read more slot → read_past read slot ≡ more
past_is bound read more slot (closed gate none is) =
    ap (λ found. record { marks = with_taken read.marks (legal_mark read.marks found); free = free_after read.free slot }) none
    ∙ ap (λ b. record { marks = read.marks; free = if b then read.free else read.free + 1 }) gate
    ∙ sym is
past_is bound read more slot (marked mark gate found free legal drawn is) =
    ap (λ found. record { marks = with_taken read.marks (legal_mark read.marks found); free = free_after read.free slot }) found
    ∙ ap (λ b. record { marks = with_taken read.marks (if b then Some mark else None); free = free_after read.free slot }) legal
    ∙ ap (λ b. record { marks = read.marks ++ mark ∷ []; free = if b then read.free else read.free + 1 }) gate
    ∙ sym is

-- slots up to their first fault
slots_first : (bound offset : ℕ) (read : JournalRead) (slots : List (List ℕ))
    → all_slots bound offset read slots ≡ first_or (past_all read slots) (slot_faults bound offset read slots)
slots_first bound offset read [] = refl
slots_first bound offset read (slot ∷ later) = by_one (one_slot bound read slot) refl (λ more. slots_first bound (offset + 32) more later)
  where
    by_one : (one : Result JournalRead ℕ) → one_slot bound read slot ≡ one → ((more : JournalRead)
        → all_slots bound (offset + 32) more later ≡ first_or (past_all more later) (slot_faults bound (offset + 32) more later))
        → all_slots bound offset read (slot ∷ later) ≡ first_or (past_all (read_past read slot) later)
        (offset_of offset (place_of_fault (one_slot bound read slot)) ++ slot_faults bound (offset + 32) (read_past read slot) later)
    by_one (Ok more) is rest =
        ap (go_on offset (λ next. all_slots bound (offset + 32) next later)) is
        ∙ rest more
        ∙ ap (λ next. first_or (past_all next later) (slot_faults bound (offset + 32) next later))
        (sym (past_is bound read more slot (slot_read bound read more slot is)))
        ∙ ap (λ one. first_or (past_all (read_past read slot) later)
        (offset_of offset (place_of_fault one) ++ slot_faults bound (offset + 32) (read_past read slot) later)) (sym is)
    by_one (Err place) is rest =
        ap (go_on offset (λ next. all_slots bound (offset + 32) next later)) is
        ∙ ap (λ one. first_or (past_all (read_past read slot) later)
        (offset_of offset (place_of_fault one) ++ slot_faults bound (offset + 32) (read_past read slot) later)) (sym is)

-- what is read of a journal, past its faults
abbrev pub read_of : Option (List ℕ) → JournalRead
read_of None = nothing_read
read_of (Some bytes) = past_all nothing_read (slots_of bytes)

-- what a journal gives, or its first fault
pub journal_first : (bound : ℕ) (content : Option (List ℕ))
    → journal_in bound content ≡ unless_faulty (journal_faults bound content) (read_of content)
unfolding journal_in faults_in
journal_first bound None = refl
journal_first bound (Some bytes) = ap (whole_journal bytes) (slots_first bound 0 nothing_read (slots_of bytes))
    ∙ by_faults (past_all nothing_read (slots_of bytes)) (slot_faults bound 0 nothing_read (slots_of bytes))
  where
    by_rest : (read : JournalRead) (whole : Bool) → (if whole then Ok read else Err (damage_at journal_file bytes (length bytes / 32 * 32)))
        ≡ unless_faulty (map (damage_at journal_file bytes) (if whole then [] else (length bytes / 32 * 32) ∷ [])) read
    by_rest read true = refl
    by_rest read false = refl

    by_faults : (read : JournalRead) (faults : List ℕ)
        → whole_journal bytes (first_or read faults) ≡ unless_faulty (map (damage_at journal_file bytes) (faults ++ rest_fault bytes)) read
    by_faults read [] = by_rest read (length bytes % 32 == 0)
    by_faults read (fault ∷ later) = refl

-- the marks of what is read are those that are taken
past_marks : (read : JournalRead) (place : ℕ) (slots : List (List ℕ))
    → (past_all read slots).marks ≡ read.marks ++ marks_of (taken_from place read.marks slots)
past_marks read place [] = sym (append-nil read.marks)
past_marks read place (slot ∷ later) = past_marks (read_past read slot) (place + 1) later ∙ by_found (legal_mark read.marks (mark_in slot))
  where
    by_found : (found : Option Mark) → with_taken read.marks found ++ marks_of (taken_from (place + 1) (with_taken read.marks found) later)
        ≡ read.marks ++ marks_of (taken_at place found ++ taken_from (place + 1) (with_taken read.marks found) later)
    by_found None = refl
    by_found (Some mark) = append_assoc read.marks (mark ∷ []) (marks_of (taken_from (place + 1) (read.marks ++ mark ∷ []) later))

pub read_marks : (content : Option (List ℕ)) → (read_of content).marks ≡ marks_taken content
unfolding taken_of
read_marks None = refl
read_marks (Some bytes) = past_marks nothing_read 0 (slots_of bytes)

-- slots without a fault
no_fault_here : (offset : ℕ) (one : Result JournalRead ℕ) (later : List ℕ) → offset_of offset (place_of_fault one) ++ later ≡ []
    → ((more : JournalRead) × (one ≡ Ok more)) × (later ≡ [])
no_fault_here offset (Ok more) later none = ((more, refl), none)
no_fault_here offset (Err place) later none = let impossible : (offset + place) ∷ later ≡ [] = none in cc

-- the marks with their places, one after the other
abbrev pub numbered : ℕ → List Mark → List TakenMark
numbered place [] = []
numbered place (mark ∷ later) = record { place = place; mark = mark } ∷ numbered (place + 1) later

-- what follows of slots without a fault, of which the first reads so
pub record Rest (bound offset : ℕ) (read : JournalRead) (slot : List ℕ) (later : List (List ℕ)) : Type 0 where
  pub more : JournalRead
  pub reads : SlotRead bound read more slot
  pub past : read_past read slot ≡ more
  pub none : slot_faults bound (offset + 32) more later ≡ []

rest_of : (bound offset : ℕ) (read : JournalRead) (slot : List ℕ) (later : List (List ℕ))
    → slot_faults bound offset read (slot ∷ later) ≡ [] → Rest bound offset read slot later
rest_of bound offset read slot later none =
    let both : ((more : JournalRead) × (one_slot bound read slot ≡ Ok more))
    × (slot_faults bound (offset + 32) (read_past read slot) later ≡ []) = no_fault_here offset (one_slot bound read slot) _ none in
    let reads : SlotRead bound read both.0.0 slot = slot_read bound read both.0.0 slot both.0.1 in
    let past : read_past read slot ≡ both.0.0 = past_is bound read both.0.0 slot reads in
    record {
      more = both.0.0;
      reads = reads;
      past = past;
      none = subst (λ next. slot_faults bound (offset + 32) next later ≡ []) past both.1;
    }

-- nothing is taken after a closed slot, where no slot has a fault
none_after : (bound offset place : ℕ) (read : JournalRead) (slots : List (List ℕ)) → ¬ (read.free ≡ 0)
    → slot_faults bound offset read slots ≡ [] → taken_from place read.marks slots ≡ []
none_after bound offset place read [] some none = refl
none_after bound offset place read (slot ∷ later) some none =
    by_read (rest_of bound offset read slot later none) (λ next. none_after bound (offset + 32) (place + 1) next later)
  where
    by_read : Rest bound offset read slot later
        → ((next : JournalRead) → ¬ (next.free ≡ 0) → slot_faults bound (offset + 32) next later ≡ []
        → taken_from (place + 1) next.marks later ≡ []) → taken_from place read.marks (slot ∷ later) ≡ []
    by_read rest go = elim rest.reads [
      | closed gate found is ↦
          ap (λ f. taken_at place (legal_mark read.marks f)
          ++ taken_from (place + 1) (with_taken read.marks (legal_mark read.marks f)) later)
          found
          ∙ go (with_free read) (λ zero. omega (arith, zero)) (subst (λ next. slot_faults bound (offset + 32) next later ≡ []) is rest.none)
      | marked mark gate found free legal drawn is ↦ absurd (some free)
    ]

-- the places of the marks of slots without a fault follow one another
places_follow : (bound offset place : ℕ) (read : JournalRead) (slots : List (List ℕ)) → slot_faults bound offset read slots ≡ []
    → taken_from place read.marks slots ≡ numbered place (marks_of (taken_from place read.marks slots))
places_follow bound offset place read [] none = refl
places_follow bound offset place read (slot ∷ later) none =
    by_read (rest_of bound offset read slot later none) (λ next. places_follow bound (offset + 32) (place + 1) next later)
  where
    all : Option Mark → List TakenMark
    all found =
        taken_at place (legal_mark read.marks found) ++ taken_from (place + 1) (with_taken read.marks (legal_mark read.marks found)) later

    by_read : Rest bound offset read slot later → ((next : JournalRead) → slot_faults bound (offset + 32) next later ≡ []
        → taken_from (place + 1) next.marks later ≡ numbered (place + 1) (marks_of (taken_from (place + 1) next.marks later)))
        → taken_from place read.marks (slot ∷ later) ≡ numbered place (marks_of (taken_from place read.marks (slot ∷ later)))
    by_read rest go = elim rest.reads [
      | closed gate found is ↦
          let nothing : all (mark_in slot) ≡ [] = ap all found ∙ none_after bound (offset + 32) (place + 1) (with_free read) later
          (λ zero. omega (arith, zero)) (subst (λ next. slot_faults bound (offset + 32) next later ≡ []) is rest.none) in
          nothing ∙ ap (λ list. numbered place (marks_of list)) (sym nothing)
      | marked mark gate found free legal drawn is ↦
          let some : all (mark_in slot) ≡ record { place = place; mark = mark } ∷ taken_from (place + 1) (read.marks ++ mark ∷ []) later =
          ap all found ∙ ap (λ b. taken_at place (if b then Some mark else None)
          ++ taken_from (place + 1) (with_taken read.marks (if b then Some mark else None)) later) legal in
          some
          ∙ ap (λ list. record { place = place; mark = mark } ∷ list)
          (go (with_mark read mark) (subst (λ next. slot_faults bound (offset + 32) next later ≡ []) is rest.none))
          ∙ ap (λ list. numbered place (marks_of list)) (sym some)
    ]

-- a greater bound finds no more
drawn_wider : (small large : ℕ) (mark : Mark) → small ≤ large → is_drawn small mark ≡ true → is_drawn large mark ≡ true
drawn_wider small large (Removed number) less is = grind (arith, nat_tests)
drawn_wider small large (Started number queue second) less is = grind (arith, nat_tests)
drawn_wider small large (Ended number ending) less is = grind (arith, nat_tests)
drawn_wider small large (Interrupted number) less is = grind (arith, nat_tests)
drawn_wider small large (Forgotten number) less is = grind (arith, nat_tests)
drawn_wider small large (Batch second) less is = refl

read_wider : (small large : ℕ) (read more : JournalRead) (slot : List ℕ) → small ≤ large → SlotRead small read more slot
    → one_slot large read slot ≡ Ok more
read_wider small large read more slot less (closed gate none is) =
    ap (λ b. if b then (if read.free == 0 then open_slot large read (mark_in slot) (right_prefix slot) else Err 0) else Ok (with_free read))
    gate ∙ ap Ok (sym is)
read_wider small large read more slot less (marked mark gate found free legal drawn is) =
    ap (λ b. if b then (if read.free == 0 then open_slot large read (mark_in slot) (right_prefix slot) else Err 0) else Ok (with_free read))
    gate
    ∙ ap (λ b. if b then open_slot large read (mark_in slot) (right_prefix slot) else Err 0) (eq-eqb read.free 0 free)
    ∙ ap (λ f. open_slot large read f (right_prefix slot)) found
    ∙ ap (λ b. if b then Ok (with_mark read mark) else Err 0) (and_from _ _ legal (drawn_wider small large mark less drawn))
    ∙ ap Ok (sym is)

slots_wider : (small large offset : ℕ) (read : JournalRead) (slots : List (List ℕ)) → small ≤ large
    → slot_faults small offset read slots ≡ [] → slot_faults large offset read slots ≡ []
slots_wider small large offset read [] less none = refl
slots_wider small large offset read (slot ∷ later) less none =
    let rest : Rest small offset read slot later = rest_of small offset read slot later none in
    ap (λ one. offset_of offset (place_of_fault one) ++ slot_faults large (offset + 32) (read_past read slot) later)
    (read_wider small large read rest.more slot less rest.reads)
    ∙ ap (λ next. slot_faults large (offset + 32) next later) rest.past
    ∙ slots_wider small large (offset + 32) rest.more later less rest.none

-- lists that are empty together
pub both_empty : {X : Type 0} → (one other : List X) → one ++ other ≡ [] → (one ≡ []) × (other ≡ [])
both_empty [] other none = (refl, none)
both_empty (first ∷ later) other none = let impossible : first ∷ (later ++ other) ≡ [] = none in cc

pub unmade : {X Y : Type 0} → (make : X → Y) (xs : List X) → map make xs ≡ [] → xs ≡ []
unmade make [] none = refl
unmade make (x ∷ later) none = let impossible : make x ∷ map make later ≡ [] = none in cc

slots_faultless : (bound : ℕ) (bytes : List ℕ) → journal_faults bound (Some bytes) ≡ []
    → (slot_faults bound 0 nothing_read (slots_of bytes) ≡ []) × (rest_fault bytes ≡ [])
unfolding faults_in
slots_faultless bound bytes none = both_empty _ _ (unmade (damage_at journal_file bytes) _ none)

-- a journal without a fault has none by a greater bound
pub journal_wider : (small large : ℕ) (content : Option (List ℕ)) → small ≤ large → journal_faults small content ≡ []
    → journal_faults large content ≡ []
unfolding faults_in
journal_wider small large None less none = refl
journal_wider small large (Some bytes) less none =
    let both : (slot_faults small 0 nothing_read (slots_of bytes) ≡ []) × (rest_fault bytes ≡ []) = slots_faultless small bytes none in
    ap (λ list. map (damage_at journal_file bytes) (list ++ rest_fault bytes))
    (slots_wider small large 0 nothing_read (slots_of bytes) less both.0)
    ∙ ap (map (damage_at journal_file bytes)) both.1

-- its marks are numbered from the first slot on
pub taken_numbered : (bound : ℕ) (content : Option (List ℕ)) → journal_faults bound content ≡ []
    → taken_of content ≡ numbered 0 (marks_taken content)
unfolding taken_of
taken_numbered bound None none = refl
taken_numbered bound (Some bytes) none = places_follow bound 0 0 nothing_read (slots_of bytes) (slots_faultless bound bytes none).0

-- and name drawn numbers
pub taken_drawn : (bound : ℕ) (content : Option (List ℕ)) → journal_faults bound content ≡ [] → are_drawn bound (marks_taken content) ≡ true
taken_drawn bound None none = ap (λ list. are_drawn bound list) (sym (read_marks None))
taken_drawn bound (Some bytes) none =
    let all : all_slots bound 0 nothing_read (slots_of bytes) ≡ Ok (past_all nothing_read (slots_of bytes)) =
    slots_first bound 0 nothing_read (slots_of bytes)
    ∙ ap (first_or (past_all nothing_read (slots_of bytes))) (slots_faultless bound bytes none).0 in
    ap (are_drawn bound) (sym (read_marks (Some bytes)))
    ∙ (all_read bound 0 nothing_read (past_all nothing_read (slots_of bytes)) (slots_of bytes) none_yet all).drawn
