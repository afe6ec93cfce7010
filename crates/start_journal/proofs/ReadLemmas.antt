-- The slots of a journal, read one by one.
use Rattle.std.proofs.Common.{◌≡◌, ℕ, zero, suc, ◌+◌, ◌*◌, ◌/◌, ◌%◌, ◌<◌, ◌≤◌, Bool, true, false, List, [], ◌∷◌, ◌++◌, Option, Some, None, length, drop, sym, ap, subst, ◌∙◌, refl, arith, eq-eqb, append_assoc, get_or, drop-cons}
use Rattle.std.specs.Prelude.{◌==◌, ◌&&◌, Result, Ok, Err, slice_index, if◌then◌else◌}
use Rattle.std.specs.List.{list_all}
use Rattle.std.specs.Simd.{first_chunks}
use Rattle.std.proofs.lemmas.List.{append-nil, at_drop_all}
use Rattle.host_calls.specs.declared.damage.Damage.{Damage}
use Rattle.start_journal.specs.declared.mark.Mark.{Mark}
use Rattle.start_journal.specs.Journals.{journal_file, AreWritable, JournalRead, all_slots, are_drawn, are_legal_after, are_sound, go_on, is_drawn, is_legal_after, journal_in, nothing_read, one_slot, open_slot, whole_journal, with_slot}
use Rattle.host_calls.specs.Damages.{damage_at}
use Rattle.start_journal.specs.Marks.{AreLegalMarks, AreLegalMarksAfter, IsLegalAfter}
use Rattle.start_journal.specs.SlotBytes.{can_write, mark_in, right_prefix}
use Rattle.start_journal.specs.Slots.{IsWritable, SpellsMark}
use Rattle.start_journal.proofs.ByteLemmas.{given, spells, writable_is, writable_tested}
use Rattle.std.proofs.lemmas.Bool.{and_from, and_parts}
use Rattle.start_journal.proofs.JournalLemmas.{legal_is, legal_tested}

-- a slot that spells no mark gives none
pub none_given : (slot : List ℕ) → ((mark : Mark) → ¬ (SpellsMark slot mark)) → mark_in slot ≡ None
none_given slot none = by_mark (mark_in slot) refl where
  by_mark : (found : Option Mark) → mark_in slot ≡ found → mark_in slot ≡ None
  by_mark None is = is
  by_mark (Some mark) is = absurd (none mark (spells slot mark is))

-- an open slot where no slot before it is closed
open_read : (last : ℕ) (read : JournalRead) (slot : List ℕ) → slice_index slot 0 ≡ 43 → read.free ≡ 0
    → one_slot last read slot ≡ open_slot last read (mark_in slot) (right_prefix slot)
open_read last read slot gate none =
    ap (λ b. if b then (if read.free == 0 then open_slot last read (mark_in slot) (right_prefix slot) else Err 0) else Ok
    (record { marks = read.marks; free = read.free + 1 })) (eq-eqb (slice_index slot 0) 43 gate)
    ∙ ap (λ b. if b then open_slot last read (mark_in slot) (right_prefix slot) else Err 0) (eq-eqb read.free 0 none)

pub none_read : (last prefix : ℕ) (read : JournalRead) (slot : List ℕ) → slice_index slot 0 ≡ 43 → read.free ≡ 0
    → ((mark : Mark) → ¬ (SpellsMark slot mark)) → prefix ≡ right_prefix slot → one_slot last read slot ≡ Err prefix
none_read last prefix read slot gate free none is =
    open_read last read slot gate free
    ∙ ap (λ found. open_slot last read found (right_prefix slot)) (none_given slot none) ∙ ap Err (sym is)

-- the answer at an open slot with a mark, by the two tests
pub mark_read : (last : ℕ) (read : JournalRead) (slot : List ℕ) (mark : Mark) → slice_index slot 0 ≡ 43
    → read.free ≡ 0 → SpellsMark slot mark → one_slot last read slot ≡ (if is_legal_after read.marks mark
    && is_drawn last mark then Ok (record { marks = read.marks ++ mark ∷ []; free = read.free }) else Err 0)
mark_read last read slot mark gate free spelled =
    open_read last read slot gate free ∙ ap (λ found. open_slot last read found (right_prefix slot)) (given slot mark spelled)

pub taken : (last : ℕ) (read : JournalRead) (slot : List ℕ) (mark : Mark) → slice_index slot 0 ≡ 43 → read.free ≡ 0 → SpellsMark slot mark
    → true ≡ is_legal_after read.marks mark → true ≡ is_drawn last mark → one_slot last read slot ≡ Ok (with_slot read (Some mark))
taken last read slot mark gate free spelled legal drawn =
    mark_read last read slot mark gate free spelled
    ∙ ap (λ b. if b then Ok (with_slot read (Some mark)) else Err 0)
    (and_from (is_legal_after read.marks mark) (is_drawn last mark) (sym legal) (sym drawn))

pub refused : (last : ℕ) (read : JournalRead) (slot : List ℕ) (mark : Mark) → slice_index slot 0 ≡ 43 → read.free ≡ 0 → SpellsMark slot mark
    → (is_legal_after read.marks mark && is_drawn last mark) ≡ false → one_slot last read slot ≡ Err 0
refused last read slot mark gate free spelled wrong =
    mark_read last read slot mark gate free spelled ∙ ap (λ b. if b then Ok (with_slot read (Some mark)) else Err 0) wrong

-- what is sound so far, and with one more mark
pub record IsSound (marks : List Mark) : Type 0 where
  pub legal : are_legal_after [] marks ≡ true
  pub writable : list_all can_write marks ≡ true

legal_more : (before later : List Mark) (mark : Mark) → are_legal_after before later ≡ true → is_legal_after (before ++ later) mark ≡ true
    → are_legal_after before (later ++ mark ∷ []) ≡ true
legal_more before [] mark legal more =
    and_from (is_legal_after before mark) true (ap (λ list. is_legal_after list mark) (sym (append-nil before)) ∙ more) refl
legal_more before (first ∷ later) mark legal more =
    let tests : (is_legal_after before first ≡ true) × (are_legal_after (before ++ first ∷ []) later ≡ true) = and_parts _ _ legal in
    and_from (is_legal_after before first) _ tests.0
    (legal_more (before ++ first ∷ []) later mark tests.1
    (ap (λ list. is_legal_after list mark) (append_assoc before (first ∷ []) later) ∙ more))

all_more : (test : Mark → Bool) (marks : List Mark) (mark : Mark) → list_all test marks ≡ true → test mark ≡ true
    → list_all test (marks ++ mark ∷ []) ≡ true
all_more test [] mark all more = and_from (test mark) true more refl
all_more test (first ∷ later) mark all more =
    let tests : (test first ≡ true) × (list_all test later ≡ true) = and_parts _ _ all in
    and_from (test first) _ tests.0 (all_more test later mark tests.1 more)

pub sound_more : (marks : List Mark) (mark : Mark) → IsSound marks → is_legal_after marks mark ≡ true → can_write mark ≡ true
    → IsSound (marks ++ mark ∷ [])
sound_more marks mark sound legal writable = record {
  legal = legal_more [] marks mark sound.legal legal;
  writable = all_more can_write marks mark sound.writable writable;
}

-- a list is sound as its test says
pub sound_is : (marks : List Mark) → are_sound marks ≡ true → IsSound marks
sound_is marks is =
    let tests : (are_legal_after [] marks ≡ true) × (list_all can_write marks ≡ true) = and_parts _ _ is in
    record { legal = tests.0; writable = tests.1 }

pub sound_tested : (marks : List Mark) → IsSound marks → are_sound marks ≡ true
sound_tested marks sound = and_from (are_legal_after [] marks) _ sound.legal sound.writable

pub legal_list : (before later : List Mark) → are_legal_after before later ≡ true → AreLegalMarksAfter before later
legal_list before [] is = tt
legal_list before (mark ∷ later) is =
    let tests : (is_legal_after before mark ≡ true) × (are_legal_after (before ++ mark ∷ []) later ≡ true) = and_parts _ _ is in
    (legal_is before mark tests.0, legal_list (before ++ mark ∷ []) later tests.1)

pub legal_tests : (before later : List Mark) → AreLegalMarksAfter before later → are_legal_after before later ≡ true
legal_tests before [] legal = refl
legal_tests before (mark ∷ later) legal =
    and_from (is_legal_after before mark) _ (legal_tested before mark legal.0) (legal_tests (before ++ mark ∷ []) later legal.1)

pub sound_legal : (marks : List Mark) → are_sound marks ≡ true → AreLegalMarks marks
sound_legal marks is = legal_list [] marks (sound_is marks is).legal

-- marks that were read are sound and drawn
pub record IsRead (last : ℕ) (marks : List Mark) : Type 0 where
  pub sound : IsSound marks
  pub drawn : are_drawn last marks ≡ true

pub none_yet : {last : ℕ} → IsRead last []
none_yet = record { sound = record { legal = refl; writable = refl }; drawn = refl }

one_read : (last : ℕ) (read more : JournalRead) (slot : List ℕ) → IsRead last read.marks → one_slot last read slot ≡ Ok more
    → IsRead last more.marks
one_read last read more slot is answer = by_gate (slice_index slot 0 == 43) refl where
  one : Result JournalRead ℕ
  one = if read.free == 0 then open_slot last read (mark_in slot) (right_prefix slot) else Err 0

  by_tests : (mark : Mark) (pass : Bool) → mark_in slot ≡ Some mark → (is_legal_after read.marks mark && is_drawn last mark) ≡ pass
      → open_slot last read (Some mark) (right_prefix slot) ≡ Ok more → IsRead last more.marks
  by_tests mark true found tests opened =
      let parts : (is_legal_after read.marks mark ≡ true) × (is_drawn last mark ≡ true) = and_parts _ _ tests in
      let whole : Ok (with_slot read (Some mark)) ≡ Ok more =
      sym (ap (λ b. if b then Ok (with_slot read (Some mark)) else Err 0) tests) ∙ opened in
      let same : with_slot read (Some mark) ≡ more = cc in
      subst (λ r. IsRead last r.marks) same (record {
        sound = sound_more read.marks mark is.sound parts.0 (writable_tested mark (spells slot mark found).writable);
        drawn = all_more (is_drawn last) read.marks mark is.drawn parts.1;
      })
  by_tests mark false found tests opened =
      let bad : Result JournalRead ℕ = Err 0 in
      let whole : bad ≡ Ok more = sym (ap (λ b. if b then Ok (with_slot read (Some mark)) else Err 0) tests) ∙ opened in
      cc

  by_mark : (found : Option Mark) → mark_in slot ≡ found → open_slot last read found (right_prefix slot) ≡ Ok more → IsRead last more.marks
  by_mark None is_none opened = cc
  by_mark (Some mark) found opened = by_tests mark (is_legal_after read.marks mark && is_drawn last mark) found refl opened

  by_free : (none : Bool) → (read.free == 0) ≡ none → one ≡ Ok more → IsRead last more.marks
  by_free true none opened = by_mark (mark_in slot) refl
      (sym (ap (λ b. if b then open_slot last read (mark_in slot) (right_prefix slot) else Err 0) none) ∙ opened)
  by_free false none opened =
      let bad : Result JournalRead ℕ = Err 0 in
      let whole : bad ≡ Ok more =
      sym (ap (λ b. if b then open_slot last read (mark_in slot) (right_prefix slot) else Err 0) none) ∙ opened in
      cc

  by_gate : (gate : Bool) → (slice_index slot 0 == 43) ≡ gate → IsRead last more.marks
  by_gate true gate = by_free (read.free == 0) refl (sym (ap (λ b. if b then one else Ok (with_slot read None)) gate) ∙ answer)
  by_gate false gate =
      let whole : Ok (with_slot read None) ≡ Ok more = sym (ap (λ b. if b then one else Ok (with_slot read None)) gate) ∙ answer in
      let same : with_slot read None ≡ more = cc in
      subst (λ r. IsRead last r.marks) same is

pub all_read : (last offset : ℕ) (read more : JournalRead) (slots : List (List ℕ)) → IsRead last read.marks
    → all_slots last offset read slots ≡ Ok more → IsRead last more.marks
all_read last offset read more [] is answer = let same : read ≡ more = cc in subst (λ r. IsRead last r.marks) same is
all_read last offset read more (slot ∷ later) is answer =
    by_one (λ next. all_read last (offset + 32) next more later) (one_slot last read slot) refl
  where
    by_one : ((next : JournalRead) → IsRead last next.marks → all_slots last (offset + 32) next later ≡ Ok more → IsRead last more.marks)
        → (one : Result JournalRead ℕ) → one_slot last read slot ≡ one → IsRead last more.marks
    by_one rest (Ok next) here =
        rest next (one_read last read next slot is here) (sym (ap (go_on offset (λ r. all_slots last (offset + 32) r later)) here) ∙ answer)
    by_one rest (Err place) here =
        let bad : Result JournalRead ℕ = Err (offset + place) in
        let whole : bad ≡ Ok more = sym (ap (go_on offset (λ r. all_slots last (offset + 32) r later)) here) ∙ answer in
        cc

pub read_sound : (last : ℕ) (read : JournalRead) (slots : List (List ℕ)) → all_slots last 0 nothing_read slots ≡ Ok read
    → are_sound read.marks ≡ true
read_sound last read slots answer =
    sound_tested read.marks (all_read last 0 nothing_read read slots none_yet answer).sound

-- what was read of the slots before a place, and what is left of them
abbrev pub IsAfter : ℕ → List (List ℕ) → ℕ → JournalRead → Type 0
IsAfter last slots place read = all_slots last 0 nothing_read slots ≡ all_slots last (place * 32) read (drop place slots)

-- a slot that breaks the form
broken : (last place offset : ℕ) (slots : List (List ℕ)) (read : JournalRead) (other : List ℕ)
    → IsAfter last slots place read → place < length slots → one_slot last read (get_or slots place other) ≡ Err offset
    → all_slots last 0 nothing_read slots ≡ Err (place * 32 + offset)
broken last place offset slots read other after inside wrong =
    after ∙ ap (all_slots last (place * 32) read) (drop-cons slots place other inside)
    ∙ ap (go_on (place * 32) (λ more. all_slots last (place * 32 + 32) more (drop (suc place) slots))) wrong

-- one slot more
pub one_after : (last place : ℕ) (slots : List (List ℕ)) (read next : JournalRead) (other : List ℕ) → IsAfter last slots place read
    → place < length slots → one_slot last read (get_or slots place other) ≡ Ok next → IsAfter last slots (place + 1) next
one_after last place slots read next other after inside is =
    let offset : place * 32 + 32 ≡ (place + 1) * 32 = omega arith in
    let count : suc place ≡ place + 1 = omega arith in
    after ∙ ap (all_slots last (place * 32) read) (drop-cons slots place other inside)
    ∙ ap (go_on (place * 32) (λ more. all_slots last (place * 32 + 32) more (drop (suc place) slots))) is
    ∙ ap (λ at. all_slots last at next (drop (suc place) slots)) offset
    ∙ ap (λ n. all_slots last ((place + 1) * 32) next (drop n slots)) count

-- by its mark, or without one
pub marked : (read : JournalRead) (found : Option Mark) (mark : Mark) (marks : List Mark) (free : ℕ) → found ≡ Some mark
    → marks ≡ read.marks ++ mark ∷ [] → free ≡ read.free → with_slot read found ≡ record { marks = marks; free = free }
marked read found mark marks free is more same = ap (with_slot read) is ∙ (λ i. record { marks = sym more i; free = sym same i })

pub unmarked : (read : JournalRead) (found : Option Mark) (marks : List Mark) (free : ℕ) → found ≡ None → marks ≡ read.marks
    → free ≡ read.free + 1 → with_slot read found ≡ record { marks = marks; free = free }
unmarked read found marks free is same more = ap (with_slot read) is ∙ (λ i. record { marks = sym same i; free = sym more i })

pub slot_damaged : (last place offset : ℕ) (bytes : List ℕ) (slots : List (List ℕ)) (read : JournalRead) (marks : List Mark)
    (other : List ℕ) (damage : Damage) → slots ≡ first_chunks 32 (length bytes / 32) bytes → IsAfter last slots place read → place
    < length slots → marks ≡ read.marks → one_slot last (record { marks = marks; free = read.free }) (get_or slots place other) ≡ Err offset
    → damage ≡ damage_at journal_file bytes (place * 32 + offset) → journal_in last (Some bytes) ≡ Err damage
unfolding journal_in
slot_damaged last place offset bytes slots read marks other damage cut after inside same wrong is =
    let at_marks : List Mark
    → Type 0 = λ list. one_slot last (record { marks = list; free = read.free }) (get_or slots place other) ≡ Err offset in
    ap (λ list. whole_journal bytes (all_slots last 0 nothing_read list)) (sym cut)
    ∙ ap (whole_journal bytes) (broken last place offset slots read other after inside (subst at_marks same wrong))
    ∙ ap Err (sym is)

-- all slots read
all_after : (last place : ℕ) (slots : List (List ℕ)) (read : JournalRead) → IsAfter last slots place read → length slots ≤ place
    → all_slots last 0 nothing_read slots ≡ Ok read
all_after last place slots read after past = after ∙ at_drop_all (all_slots last (place * 32) read) slots place past

pub end_sound : (last place : ℕ) (slots : List (List ℕ)) (read : JournalRead) → IsAfter last slots place read → length slots ≤ place
    → are_sound read.marks ≡ true
end_sound last place slots read after past = read_sound last read slots (all_after last place slots read after past)

-- what is after the last slot
end_of : (last place : ℕ) (bytes : List ℕ) (slots : List (List ℕ)) (read : JournalRead) → slots ≡ first_chunks 32 (length bytes / 32) bytes
    → IsAfter last slots place read → length slots ≤ place → journal_in last (Some bytes) ≡ whole_journal bytes (Ok read)
unfolding journal_in
end_of last place bytes slots read cut after past =
    ap (λ list. whole_journal bytes (all_slots last 0 nothing_read list)) (sym cut)
    ∙ ap (whole_journal bytes) (all_after last place slots read after past)

pub rest_damaged : (last place rest : ℕ) (bytes : List ℕ) (slots : List (List ℕ)) (read : JournalRead) (damage : Damage)
    → slots ≡ first_chunks 32 (length bytes / 32) bytes → IsAfter last slots place read
    → length slots ≤ place → length slots ≡ length bytes / 32 → rest ≡ length bytes % 32 → false ≡ (rest == 0)
    → damage ≡ damage_at journal_file bytes (length slots * 32) → journal_in last (Some bytes) ≡ Err damage
rest_damaged last place rest bytes slots read damage cut after past counted left some is =
    end_of last place bytes slots read cut after past
    ∙ ap (λ b. if b then Ok read else Err (damage_at journal_file bytes (length bytes / 32 * 32))) (sym (some ∙ ap (λ n. n == 0) left))
    ∙ ap Err (ap (λ n. damage_at journal_file bytes (n * 32)) (sym counted) ∙ sym is)

pub read_whole : (last place rest : ℕ) (bytes : List ℕ) (slots : List (List ℕ)) (read : JournalRead)
    → slots ≡ first_chunks 32 (length bytes / 32) bytes → IsAfter last slots place read → length slots ≤ place → rest ≡ length bytes % 32
    → true ≡ (rest == 0) → journal_in last (Some bytes) ≡ Ok read
read_whole last place rest bytes slots read cut after past left none =
    end_of last place bytes slots read cut after past
    ∙ ap (λ b. if b then Ok read else Err (damage_at journal_file bytes (length bytes / 32 * 32))) (sym (none ∙ ap (λ n. n == 0) left))

-- without a file there is no mark and no free slot
pub absent_read : (last : ℕ) (held : Option (List ℕ)) (marks : List Mark) → held ≡ None → marks ≡ []
    → journal_in last held ≡ Ok (record { marks = marks; free = 0 })
unfolding journal_in
absent_read last held marks absent none = ap (journal_in last) absent ∙ ap (λ list. Ok (record { marks = list; free = 0 })) (sym none)

-- a journal with one more mark
pub added_sound : (marks more : List Mark) (mark : Mark) → are_sound marks ≡ true → IsLegalAfter marks mark → IsWritable mark
    → more ≡ marks ++ mark ∷ [] → are_sound more ≡ true
added_sound marks more mark sound legal writable is =
    ap are_sound is ∙ sound_tested (marks ++ mark ∷ [])
    (sound_more marks mark (sound_is marks sound) (legal_tested marks mark legal) (writable_tested mark writable))

-- marks that pass the test can be written
pub all_writable : (marks : List Mark) → list_all can_write marks ≡ true → AreWritable marks
all_writable [] all place other inside = absurd (omega arith)
all_writable (mark ∷ later) all zero other inside = writable_is mark (and_parts _ _ all).0
all_writable (mark ∷ later) all (suc place) other inside = all_writable later (and_parts _ _ all).1 place other (omega arith)
