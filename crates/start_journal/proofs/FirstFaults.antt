-- The first fault of a journal, by its place, is the one that `journal_in` computes.
use Rattle.std.proofs.Common.{◌≡◌, ◌⊎◌, ℕ, zero, suc, ◌+◌, ◌-◌, ◌*◌, ◌/◌, ◌%◌, ◌<◌, ◌≤◌, Bool, true, false, List, [], ◌∷◌, ◌++◌, Option, Some, None, length, sym, ap, subst, ◌∙◌, refl, inl, inr, arith}
use Rattle.std.specs.Prelude.{◌==◌, ◌&&◌, Result, Ok, Err, slice_index, if◌then◌else◌}
use Rattle.std.proofs.Math.Nat.{eq-or-lt_of_le}
use Rattle.std.proofs.lemmas.Bool.Decides.{eqb_tells, nat_tests}
use Rattle.std.proofs.lemmas.List.{length-append}
use Rattle.host_calls.specs.declared.damage.Damage.{Damage}
use Rattle.host_calls.specs.Damages.{damage_at}
use Rattle.start_journal.specs.declared.mark.Mark.{Mark}
use Rattle.start_journal.specs.DamageLaws.{JournalsAreDamaged, JournalsAreGiven, WholeJournalsAreGiven}
use Rattle.start_journal.specs.FirstFault.{GivesJournal, IsFirstFault, IsJournalDamage, IsRestFault, IsRightBefore, IsRightJournal, IsSlotFault, IsWrong, after_closed, misspelled, not_drawn, not_legal, slot_at}
use Rattle.start_journal.specs.JournalLaws.{IsLongestPrefix}
use Rattle.start_journal.specs.Journals.{JournalRead, is_drawn, is_legal_after, journal_file, journal_in, nothing_read, one_slot, open_slot, with_free}
use Rattle.start_journal.specs.SlotBytes.{mark_in, right_prefix}
use Rattle.start_journal.specs.Slots.{SpellsMark}
use Rattle.start_journal.proofs.ByteLemmas.{given, spells}
use Rattle.start_journal.proofs.JournalPrefixes.{NamesUndrawn, chunks_long, chunks_of, drawn_names, get_more, legal_more, named_more, read_after, slot_inside, slot_is, undrawn_names}
use Rattle.start_journal.proofs.JournalLemmas.{legal_is, legal_tested}
use Rattle.start_journal.proofs.MarkLemmas.{and_false}
use Rattle.start_journal.proofs.ReadLemmas.{none_read, read_whole, refused, rest_damaged, slot_damaged}
use Rattle.start_journal.proofs.RightLemmas.{right_prefixes_are_longest}

-- A fault is computed.

-- an open slot after a closed one
after_read : (last : ℕ) (read : JournalRead) (slot : List ℕ) → slice_index slot 0 ≡ 43 → (read.free == 0) ≡ false
    → one_slot last read slot ≡ Err 0
after_read last read slot gate some =
    let open_gate : (slice_index slot 0 == 43) ≡ true = grind (arith, nat_tests) in
    ap (λ b. if b then (if read.free == 0 then open_slot last read (mark_in slot) (right_prefix slot) else Err 0) else Ok (with_free read))
    open_gate
    ∙ ap (λ b. if b then open_slot last read (mark_in slot) (right_prefix slot) else Err 0) some

not_tested : (test : Bool) → ¬ (test ≡ true) → test ≡ false
not_tested true not = absurd (not refl)
not_tested false not = refl

wrong_read : (last : ℕ) (marks : List Mark) (place : ℕ) (slot : List ℕ) (offset : ℕ) → slice_index slot 0 ≡ 43
    → IsWrong last marks place slot offset →
    one_slot last (record { marks = marks; free = place - length marks }) slot ≡ Err offset
wrong_read last marks place slot offset gate (after_closed less at_gate) =
    let some : ((place - length marks) == 0) ≡ false = grind (arith, nat_tests) in
    after_read last (record { marks = marks; free = place - length marks }) slot gate some ∙ ap Err (sym at_gate)
wrong_read last marks place slot offset gate (misspelled full none longest) =
    let right : IsLongestPrefix slot (right_prefix slot) = right_prefixes_are_longest slot in
    let one : offset ≤ right_prefix slot = right.longest offset longest.prefix in
    let two : right_prefix slot ≤ offset = longest.longest (right_prefix slot) right.prefix in
    none_read last offset (record { marks = marks; free = place - length marks }) slot gate (omega arith) none (omega arith)
wrong_read last marks place slot offset gate (not_legal mark full spelled wrong at_gate) =
    let test : is_legal_after marks mark ≡ false = not_tested (is_legal_after marks mark) (λ legal. wrong (legal_is marks mark legal)) in
    refused last (record { marks = marks; free = place - length marks }) slot mark gate (omega arith) spelled
    (ap (λ b. b && is_drawn last mark) test)
    ∙ ap Err (sym at_gate)
wrong_read last marks place slot offset gate (not_drawn mark number full spelled named greater at_gate) =
    let test : is_drawn last mark ≡ false =
    not_tested (is_drawn last mark) (λ drawn. (let most : number ≤ last = drawn_names last number mark drawn named in omega arith)) in
    refused last (record { marks = marks; free = place - length marks }) slot mark gate (omega arith) spelled
    (ap (λ b. is_legal_after marks mark && b) test ∙ and_false (is_legal_after marks mark))
    ∙ ap Err (sym at_gate)

slot_fault_read : (last : ℕ) (bytes : List ℕ) (offset : ℕ) → IsSlotFault last bytes offset
    → journal_in last (Some bytes) ≡ Err (damage_at journal_file bytes offset)
slot_fault_read last bytes offset fault =
    let whole : 32 * fault.place + 32 ≤ length bytes = fault.opened.whole in
    let inside : fault.place < length bytes / 32 = slot_inside bytes fault.place whole in
    let counted : length (chunks_of bytes) ≡ length bytes / 32 = chunks_long (length bytes / 32) bytes in
    let there : offset ≡ fault.place * 32 + fault.inside = omega (arith, fault.offset_is) in
    slot_damaged last fault.place fault.inside bytes (chunks_of bytes)
    (record { marks = fault.marks; free = fault.place - length fault.marks }) fault.marks [] (damage_at journal_file bytes offset) refl
    (read_after last bytes fault.place fault.marks fault.before) (omega arith) refl
    (ap (one_slot last (record { marks = fault.marks; free = fault.place - length fault.marks })) (slot_is bytes fault.place [] whole)
    ∙ wrong_read last fault.marks fault.place (slot_at bytes fault.place) fault.inside fault.opened.gate fault.wrong)
    (ap (damage_at journal_file bytes) there)

rest_fault_read : (last : ℕ) (bytes : List ℕ) (offset : ℕ) → IsRestFault last bytes offset
    → journal_in last (Some bytes) ≡ Err (damage_at journal_file bytes offset)
rest_fault_read last bytes offset fault =
    let some : offset < length bytes = fault.some in
    let few : length bytes < offset + 32 = fault.few in
    let at : offset ≡ 32 * fault.place = fault.offset_is in
    let place : fault.place ≡ length bytes / 32 = omega arith in
    let rest : (length bytes % 32 == 0) ≡ false = (let left : 0 < length bytes % 32 = omega arith in grind (arith, nat_tests)) in
    let counted : length (chunks_of bytes) ≡ length bytes / 32 = chunks_long (length bytes / 32) bytes in
    let there : offset ≡ length (chunks_of bytes) * 32 = omega arith in
    rest_damaged last fault.place (length bytes % 32) bytes (chunks_of bytes)
    (record { marks = fault.marks; free = fault.place - length fault.marks }) (damage_at journal_file bytes offset) refl
    (read_after last bytes fault.place fault.marks fault.before) (omega arith) counted refl (sym rest)
    (ap (damage_at journal_file bytes) there)

fault_read : (last : ℕ) (bytes : List ℕ) (offset : ℕ) → IsFirstFault last bytes offset
    → journal_in last (Some bytes) ≡ Err (damage_at journal_file bytes offset)
fault_read last bytes offset (inl fault) = slot_fault_read last bytes offset fault
fault_read last bytes offset (inr fault) = rest_fault_read last bytes offset fault

-- a journal without a fault is read
right_read : (last : ℕ) (bytes : List ℕ) (read : JournalRead) → IsRightJournal last bytes read → journal_in last (Some bytes) ≡ Ok read
right_read last bytes read right =
    let all : length bytes ≡ 32 * (length read.marks + read.free) = right.all in
    let counted : length (chunks_of bytes) ≡ length bytes / 32 = chunks_long (length bytes / 32) bytes in
    let none : (length bytes % 32 == 0) ≡ true = (let left : length bytes % 32 ≡ 0 = omega arith in grind (arith, nat_tests)) in
    let free : length read.marks + read.free - length read.marks ≡ read.free = omega arith in
    read_whole last (length read.marks + read.free) (length bytes % 32) bytes (chunks_of bytes)
    (record { marks = read.marks; free = length read.marks + read.free - length read.marks }) refl
    (read_after last bytes (length read.marks + read.free) read.marks right.slots) (omega arith) refl (sym none)
    ∙ ap (λ n. Ok (record { marks = read.marks; free = n })) free

-- Each journal has a first fault or is right.

abbrev HasFault : ℕ → List ℕ → Type 0
HasFault last bytes = (offset : ℕ) × IsSlotFault last bytes offset

abbrev HasMarks : ℕ → List ℕ → ℕ → Type 0
HasMarks last bytes place = (marks : List Mark) × IsRightBefore last bytes place marks

-- one slot more
module _ (last : ℕ) (bytes : List ℕ) (place : ℕ) (marks : List Mark) (right : IsRightBefore last bytes place marks)
    (whole : 32 * place + 32 ≤ length bytes) where
  wrong_here : (inside : ℕ) → slice_index (slot_at bytes place) 0 ≡ 43
      → IsWrong last marks place (slot_at bytes place) inside → HasFault last bytes
  wrong_here inside gate wrong = (
    32 * place + inside,
    record {
      place = place;
      marks = marks;
      before = right;
      opened = record { whole = whole; gate = gate };
      inside = inside;
      wrong = wrong;
      offset_is = refl;
    },
  )

  closed_more : ¬ (slice_index (slot_at bytes place) 0 ≡ 43) → IsRightBefore last bytes (suc place) marks
  closed_more closed = record {
    within = omega (arith, whole);
    few = omega (arith, right.few);
    spelled = right.spelled;
    closed = λ at past inside. elim (eq-or-lt_of_le (let most : at ≤ place = omega arith in most)) [
      | inl here ↦ λ is_open. closed (subst (λ p. slice_index (slot_at bytes p) 0 ≡ 43) here is_open.gate)
      | inr below ↦ right.closed at past below
    ];
    legal = right.legal;
    drawn = right.drawn;
  }

  mark_more : (mark : Mark) → length marks ≡ place → SpellsMark (slot_at bytes place) mark → is_legal_after marks mark ≡ true
      → is_drawn last mark ≡ true → IsRightBefore last bytes (suc place) (marks ++ mark ∷ [])
  mark_more mark full spelled legal drawn =
      let long : length (marks ++ mark ∷ []) ≡ suc place = simp length-append (omega arith) in
      record {
        within = omega (arith, whole);
        few = omega (arith, long);
        spelled = λ at found is. elim (get_more marks mark at found is) [
          | inl before ↦ right.spelled at found before
          | inr here ↦ subst (λ p. SpellsMark (slot_at bytes p) found) (sym (here.0 ∙ full))
              (subst (SpellsMark (slot_at bytes place)) here.1 spelled)
        ];
        closed = λ at past inside. absurd (omega (arith, long));
        legal = legal_more [] marks mark right.legal (legal_is marks mark legal);
        drawn = λ number named. elim (named_more number marks mark named) [
          | inl before ↦ right.drawn number before
          | inr here ↦ drawn_names last number mark drawn here
        ];
      }

  by_drawn : (mark : Mark) (drawn : Bool) → is_drawn last mark ≡ drawn → slice_index (slot_at bytes place) 0 ≡ 43 → length marks ≡ place
      → SpellsMark (slot_at bytes place) mark → is_legal_after marks mark ≡ true → HasFault last bytes ⊎ HasMarks last bytes (suc place)
  by_drawn mark true drawn gate full spelled legal = inr (marks ++ mark ∷ [], mark_more mark full spelled legal drawn)
  by_drawn mark false drawn gate full spelled legal =
      let undrawn : NamesUndrawn last mark = undrawn_names last mark drawn in
      inl (wrong_here 0 gate (not_drawn mark undrawn.number full spelled undrawn.named undrawn.greater refl))

  by_legal : (mark : Mark) (legal : Bool) → is_legal_after marks mark ≡ legal → slice_index (slot_at bytes place) 0 ≡ 43
      → length marks ≡ place → SpellsMark (slot_at bytes place) mark → HasFault last bytes ⊎ HasMarks last bytes (suc place)
  by_legal mark true legal gate full spelled = by_drawn mark (is_drawn last mark) refl gate full spelled legal
  by_legal mark false illegal gate full spelled =
      inl (wrong_here 0 gate
      (not_legal mark full spelled (λ legal. (let impossible : false ≡ true = sym illegal ∙ legal_tested marks mark legal in cc)) refl))

  by_mark : (found : Option Mark) → mark_in (slot_at bytes place) ≡ found → slice_index (slot_at bytes place) 0 ≡ 43 → length marks ≡ place
      → HasFault last bytes ⊎ HasMarks last bytes (suc place)
  by_mark None none gate full =
      inl (wrong_here (right_prefix (slot_at bytes place)) gate
      (misspelled full (λ mark spelled. (let impossible : None ≡ Some mark = sym none ∙ given (slot_at bytes place) mark spelled in cc))
      (right_prefixes_are_longest (slot_at bytes place))))
  by_mark (Some mark) found gate full = by_legal mark (is_legal_after marks mark) refl gate full (spells (slot_at bytes place) mark found)

  slot_more : HasFault last bytes ⊎ HasMarks last bytes (suc place)
  slot_more = elim (eqb_tells (slice_index (slot_at bytes place) 0) 43) [
    | inl same ↦ elim (eq-or-lt_of_le right.few) [
      | inl full ↦ by_mark (mark_in (slot_at bytes place)) refl same.1 full
      | inr less ↦ inl (wrong_here 0 same.1 (after_closed less refl))
    ]
    | inr apart ↦ inr (marks, closed_more apart.1)
  ]

fault_before : (last : ℕ) (bytes : List ℕ) (place : ℕ) → 32 * place ≤ length bytes → HasFault last bytes ⊎ HasMarks last bytes place
fault_before last bytes zero within = inr (
  [],
  record {
    within = within;
    few = omega arith;
    spelled = λ at mark is. (let impossible : None ≡ Some mark = is in cc);
    closed = λ at past inside. absurd (omega arith);
    legal = tt;
    drawn = λ number named. (let impossible : false ≡ true = named in cc);
  },
)
fault_before last bytes (suc place) within = elim (fault_before last bytes place (omega arith)) [
  | inl fault ↦ inl fault
  | inr right ↦ slot_more last bytes place right.0 right.1 (omega arith)
]

fault_or_right : (last : ℕ) (bytes : List ℕ) → ((offset : ℕ) × IsFirstFault last bytes offset)
    ⊎ ((read : JournalRead) × IsRightJournal last bytes read)
fault_or_right last bytes = elim (fault_before last bytes (length bytes / 32) (omega arith)) [
  | inl fault ↦ inl (fault.0, inl fault.1)
  | inr right ↦ elim (eqb_tells (length bytes % 32) 0) [
    | inl none ↦
        let few : length right.0 ≤ length bytes / 32 = right.1.few in
        let all : length bytes / 32 ≡ length right.0 + (length bytes / 32 - length right.0) = omega arith in
        let left : length bytes % 32 ≡ 0 = none.1 in
        inr (
          record { marks = right.0; free = length bytes / 32 - length right.0 },
          record {
            slots = subst (λ place. IsRightBefore last bytes place right.0) all right.1;
            all = omega arith;
          },
        )
    | inr some ↦
        let left : ¬ (length bytes % 32 ≡ 0) = some.1 in
        inl (
          32 * (length bytes / 32),
          inr (record {
            place = length bytes / 32;
            marks = right.0;
            before = right.1;
            offset_is = refl;
            some = omega arith;
            few = omega arith;
          }),
        )
  ]
]

-- What is computed is what is said.

damage_read : (last : ℕ) (content : Option (List ℕ)) (damage : Damage) → IsJournalDamage last content damage
    → journal_in last content ≡ Err damage
damage_read last content damage is = ap (journal_in last) is.held ∙ fault_read last is.bytes damage.offset is.fault
    ∙ ap Err (sym is.damage_is)

read_damage : (last : ℕ) (content : Option (List ℕ)) (damage : Damage) → journal_in last content ≡ Err damage
    → IsJournalDamage last content damage
unfolding journal_in
read_damage last None damage is = let impossible : ◌≡◌ {A = Result JournalRead Damage} (Ok nothing_read) (Err damage) = is in cc
read_damage last (Some bytes) damage is = elim (fault_or_right last bytes) [
  | inl fault ↦
      let both : ◌≡◌ {A = Result JournalRead Damage} (Err (damage_at journal_file bytes fault.0)) (Err damage) =
      sym (fault_read last bytes fault.0 fault.1) ∙ is in
      let same : damage_at journal_file bytes fault.0 ≡ damage = cc in
      subst (IsJournalDamage last (Some bytes)) same (record { bytes = bytes; held = refl; fault = fault.1; damage_is = refl })
  | inr right ↦
      let impossible : ◌≡◌ {A = Result JournalRead Damage} (Ok right.0) (Err damage) = sym (right_read last bytes right.0 right.1) ∙ is in
      cc
]

given_read : (last : ℕ) (content : Option (List ℕ)) (read : JournalRead) → GivesJournal last content read
    → journal_in last content ≡ Ok read
unfolding journal_in
given_read last None read is = ap Ok (sym is)
given_read last (Some bytes) read is = right_read last bytes read is

read_given : (last : ℕ) (content : Option (List ℕ)) (read : JournalRead) → journal_in last content ≡ Ok read
    → GivesJournal last content read
unfolding journal_in
read_given last None read is = cc
read_given last (Some bytes) read is = elim (fault_or_right last bytes) [
  | inl fault ↦
      let impossible : ◌≡◌ {A = Result JournalRead Damage} (Err (damage_at journal_file bytes fault.0)) (Ok read) =
      sym (fault_read last bytes fault.0 fault.1) ∙ is in
      cc
  | inr right ↦
      let both : ◌≡◌ {A = Result JournalRead Damage} (Ok right.0) (Ok read) = sym (right_read last bytes right.0 right.1) ∙ is in
      let same : right.0 ≡ read = cc in
      subst (IsRightJournal last bytes) same right.1
]

pub journals_are_damaged : JournalsAreDamaged
journals_are_damaged last content damage = (read_damage last content damage, damage_read last content damage)

pub journals_are_given : JournalsAreGiven
journals_are_given last content read = (read_given last content read, given_read last content read)

pub whole_journals_are_given : WholeJournalsAreGiven
whole_journals_are_given last content = (
  λ given damage is.
      let impossible : ◌≡◌ {A = Result JournalRead Damage} (Ok given.0) (Err damage) = sym (given_read last content given.0 given.1)
      ∙ damage_read last content damage is in
      cc,
  λ none. by_answer none (journal_in last content) refl,
) where
  by_answer : ((damage : Damage) → ¬ IsJournalDamage last content damage) → (answer : Result JournalRead Damage)
      → journal_in last content ≡ answer → (read : JournalRead) × GivesJournal last content read
  by_answer none (Ok read) is = (read, read_given last content read is)
  by_answer none (Err damage) is = absurd (none damage (read_damage last content damage is))
