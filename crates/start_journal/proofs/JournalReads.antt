-- What is known of the marks that a journal gives.
use Rattle.std.proofs.Common.{◌≡◌, ◌≤◌, ◌+◌, ◌*◌, ◌==◌, ℕ, Bool, true, false, List, [], ◌∷◌, sym, ap, subst, ◌∙◌, refl, arith}
use Rattle.std.specs.Prelude.{◌&&◌, Option, Some, None, Result, Ok, Err, IfOk, IsTrue, length, slice_index, ◌%◌, ◌/◌, if◌then◌else◌}
use Rattle.std.specs.Simd.{first_chunks}
use Rattle.std.proofs.lemmas.Bool.Decides.{nat_tests}
use Rattle.host_calls.specs.declared.damage.Damage.{Damage}
use Rattle.start_journal.specs.declared.lifecycles.Lifecycles.{Lifecycles}
use Rattle.start_journal.specs.declared.mark.Mark.{Mark}
use Rattle.start_journal.specs.declared.mark.Mark.TheVariants.{Removed, Started, Ended, Interrupted, Forgotten, Batch}
use Rattle.start_journal.specs.Journals.{journal_file, AreWritable, JournalRead, all_slots, are_drawn, go_on, is_drawn, is_legal_after, journal_in, nothing_read, one_slot, open_slot, whole_journal, with_free, with_mark}
use Rattle.host_calls.specs.Damages.{damage_at}
use Rattle.start_journal.specs.Marks.{AreLegalMarks}
use Rattle.start_journal.specs.SlotBytes.{mark_in, right_prefix}
use Rattle.std.proofs.lemmas.Bool.{and_from, and_parts}
use Rattle.start_journal.proofs.ReadLemmas.{IsRead, all_read, all_writable, legal_list, none_yet}

-- what is drawn stays so under a greater last number
drawn_more : (last more : ℕ) (mark : Mark) → last ≤ more → is_drawn last mark ≡ true → is_drawn more mark ≡ true
drawn_more last more (Removed number) least drawn = grind (arith, nat_tests)
drawn_more last more (Started number queue second) least drawn = grind (arith, nat_tests)
drawn_more last more (Ended number ending) least drawn = grind (arith, nat_tests)
drawn_more last more (Interrupted number) least drawn = grind (arith, nat_tests)
drawn_more last more (Forgotten number) least drawn = grind (arith, nat_tests)
drawn_more last more (Batch second) least drawn = refl

-- a mark that an open slot adds
record IsAdded (last : ℕ) (read next : JournalRead) (mark : Mark) : Type 0 where
  legal : is_legal_after read.marks mark ≡ true
  drawn : is_drawn last mark ≡ true
  is : next ≡ with_mark read mark

-- a test that gives an answer passed
abbrev given_if : Bool → JournalRead → Result JournalRead ℕ
given_if test answer = if test then Ok answer else Err 0

passed : (test : Bool) (answer next : JournalRead) → given_if test answer ≡ Ok next → (test ≡ true) × (next ≡ answer)
passed true answer next is = (refl, cc)
passed false answer next is = cc

added_by : (last : ℕ) (read next : JournalRead) (mark : Mark) (prefix : ℕ) → open_slot last read (Some mark) prefix ≡ Ok next
    → IsAdded last read next mark
added_by last read next mark prefix is =
    let test : ((is_legal_after read.marks mark && is_drawn last mark) ≡ true) × (next ≡ with_mark read mark) =
    passed (is_legal_after read.marks mark && is_drawn last mark) (with_mark read mark) next is in
    let tests : (is_legal_after read.marks mark ≡ true) × (is_drawn last mark ≡ true) =
    and_parts (is_legal_after read.marks mark) (is_drawn last mark) test.0 in
    record { legal = tests.0; drawn = tests.1; is = test.1 }

open_again : (last : ℕ) (read next : JournalRead) (mark : Mark) (prefix : ℕ) → IsAdded last read next mark
    → open_slot last read (Some mark) prefix ≡ Ok next
open_again last read next mark prefix added =
    ap (λ b. given_if b (with_mark read mark)) (and_from (is_legal_after read.marks mark) (is_drawn last mark) added.legal added.drawn)
    ∙ ap Ok (sym added.is)

-- what a slot gives, by its gate, by whether a closed one comes before it, and by its mark
abbrev slot_by : ℕ → JournalRead → Bool → Bool → Option Mark → ℕ → Result JournalRead ℕ
slot_by last read gate first found prefix =
    if gate then (if first then open_slot last read found prefix else Err 0) else Ok (with_free read)

-- a slot gives the same under a greater last number
slot_more : (last more : ℕ) (read next : JournalRead) (gate first : Bool) (found : Option Mark) (prefix : ℕ) → last ≤ more
    → slot_by last read gate first found prefix ≡ Ok next → slot_by more read gate first found prefix ≡ Ok next
slot_more last more read next false first found prefix least is = is
slot_more last more read next true false found prefix least is = is
slot_more last more read next true true None prefix least is = is
slot_more last more read next true true (Some mark) prefix least is =
    let added : IsAdded last read next mark = added_by last read next mark prefix is in
    open_again more read next mark prefix
    (record { legal = added.legal; drawn = drawn_more last more mark least added.drawn; is = added.is })

-- so do all slots
slots_more : (last more offset : ℕ) (read end : JournalRead) (slots : List (List ℕ)) → last ≤ more
    → all_slots last offset read slots ≡ Ok end → all_slots more offset read slots ≡ Ok end
slots_more last more offset read end [] least is = is
slots_more last more offset read end (slot ∷ later) least is =
    by_slot (one_slot last read slot) refl is (λ next. slots_more last more (offset + 32) next end later least) where
      by_slot : (one : Result JournalRead ℕ) → one_slot last read slot ≡ one
          → go_on offset (λ next. all_slots last (offset + 32) next later) one ≡ Ok end
          → ((next : JournalRead) → all_slots last (offset + 32) next later ≡ Ok end → all_slots more (offset + 32) next later ≡ Ok end)
          → all_slots more offset read (slot ∷ later) ≡ Ok end
      by_slot (Ok next) one rest go =
          ap (go_on offset (λ other. all_slots more (offset + 32) other later)) (slot_more last more read next (slice_index slot 0 == 43)
          (read.free == 0) (mark_in slot) (right_prefix slot) least one) ∙ go next rest
      by_slot (Err place) one rest go = cc

whole_more : (bytes : List ℕ) (one other : Result JournalRead ℕ) (read : JournalRead)
    → ((end : JournalRead) → one ≡ Ok end → other ≡ Ok end) → whole_journal bytes one ≡ Ok read → whole_journal bytes other ≡ Ok read
whole_more bytes (Ok end) other read alike is = ap (whole_journal bytes) (alike end refl) ∙ is
whole_more bytes (Err place) other read alike is = cc

-- a journal that reads reads the same under a greater last number
pub journal_more : (last more : ℕ) (content : Option (List ℕ)) (read : JournalRead) → last ≤ more → journal_in last content ≡ Ok read
    → journal_in more content ≡ Ok read
unfolding journal_in
journal_more last more None read least is = is
journal_more last more (Some bytes) read least is =
    let slots : List (List ℕ) = first_chunks 32 (length bytes / 32) bytes in
    whole_more bytes (all_slots last 0 nothing_read slots) (all_slots more 0 nothing_read slots) read
    (λ end. slots_more last more 0 nothing_read end slots least) is

-- a journal of whole slots
abbrev rest_tested : List ℕ → Bool → JournalRead → Result JournalRead Damage
rest_tested bytes none end = if none then Ok end else Err (damage_at journal_file bytes (length bytes / 32 * 32))

whole_is : (bytes : List ℕ) (one : Result JournalRead ℕ) (read : JournalRead) → whole_journal bytes one ≡ Ok read → one ≡ Ok read
whole_is bytes (Ok end) read is = ap Ok (by_rest (length bytes % 32 == 0) is) where
  by_rest : (none : Bool) → rest_tested bytes none end ≡ Ok read → end ≡ read
  by_rest true is = cc
  by_rest false is = cc
whole_is bytes (Err place) read is = cc

read_in : (last : ℕ) (content : Option (List ℕ)) (read : JournalRead) → journal_in last content ≡ Ok read → IsRead last read.marks
unfolding journal_in
read_in last None read is = subst (IsRead last) (let same : [] ≡ read.marks = cc in same) none_yet
read_in last (Some bytes) read is =
    let slots : List (List ℕ) = first_chunks 32 (length bytes / 32) bytes in
    all_read last 0 nothing_read read slots none_yet (whole_is bytes (all_slots last 0 nothing_read slots) read is)

-- the marks that a journal gives are legal
pub journal_legal : (last : ℕ) (content : Option (List ℕ)) (read : JournalRead) → journal_in last content ≡ Ok read
    → AreLegalMarks read.marks
journal_legal last content read is = legal_list [] read.marks (read_in last content read is).sound.legal

-- and name only numbers that were drawn
pub journal_drawn : (last : ℕ) (content : Option (List ℕ)) (read : JournalRead) → journal_in last content ≡ Ok read
    → are_drawn last read.marks ≡ true
journal_drawn last content read is = (read_in last content read is).drawn

-- and can be written
pub journal_writable : (last : ℕ) (content : Option (List ℕ)) (read : JournalRead) → journal_in last content ≡ Ok read
    → AreWritable read.marks
journal_writable last content read is = all_writable read.marks (read_in last content read is).sound.writable

pub answer_drawn : {F : Type 0} (last : ℕ) (content : Option (List ℕ)) (answer : Result (JournalRead × Lifecycles) F)
    → IfOk answer (λ read. journal_in last content ≡ Ok read.0) → IfOk answer (λ read. IsTrue (are_drawn last read.0.marks))
answer_drawn last content (Ok read) is = journal_drawn last content read.0 is
answer_drawn last content (Err fault) is = tt
