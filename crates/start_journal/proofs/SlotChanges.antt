-- A journal of which one slot is written over.
use Rattle.std.proofs.Common.{◌≡◌, ◌⊎◌, ℕ, suc, ◌+◌, ◌*◌, ◌<◌, ◌≤◌, true, List, [], ◌∷◌, ◌++◌, length, drop, sym, subst, ◌∙◌, inl, inr, arith, get_or-take}
use Rattle.std.specs.Prelude.{slice_index}
use Rattle.std.proofs.lemmas.Bool.{cases_order}
use Rattle.std.proofs.lemmas.Option.{slice_get_within}
use Rattle.std.proofs.lemmas.List.{ext_get_or, get_or-drop, length-append, length-drop, length-take, length-take-le}
use Rattle.start_journal.specs.declared.mark.Mark.{Mark}
use Rattle.start_journal.specs.JournalChange.{added}
use Rattle.start_journal.specs.FirstFault.{IsOpenSlot, IsRightJournal, slot_at}
use Rattle.start_journal.specs.Journals.{JournalRead, is_drawn}
use Rattle.start_journal.specs.Marks.{IsLegalAfter}
use Rattle.start_journal.specs.Slots.{SpellsMark}
use Rattle.start_journal.proofs.JournalPrefixes.{drawn_names, get_more, legal_more, named_more}

-- at most the slot of this place differs
pub record DiffersInSlot (place : ℕ) (old new : List ℕ) : Type 0 where
  pub counted : length new ≡ length old
  pub before : (at : ℕ) → at < 32 * place → slice_index new at ≡ slice_index old at
  pub after : (at : ℕ) → 32 * place + 32 ≤ at → slice_index new at ≡ slice_index old at

-- one change after another
pub differs_then : (place : ℕ) (old middle new : List ℕ) → DiffersInSlot place old middle → DiffersInSlot place middle new
    → DiffersInSlot place old new
differs_then place old middle new first second = record {
  counted = second.counted ∙ first.counted;
  before = λ at early. second.before at early ∙ first.before at early;
  after = λ at late. second.after at late ∙ first.after at late;
}

-- a byte of a slot is in the journal after the slots before it
pub index_slot : (bytes : List ℕ) (place at : ℕ) → at < 32 → slice_index (slot_at bytes place) at ≡ slice_index bytes (32 * place + at)
index_slot bytes place at inside = get_or-take 32 (drop (32 * place) bytes) at 0 inside ∙ get_or-drop (32 * place) bytes at 0

-- a whole slot has 32 bytes
pub slot_long : (bytes : List ℕ) (place : ℕ) → 32 * place + 32 ≤ length bytes → length (slot_at bytes place) ≡ 32
slot_long bytes place whole = length-take-le 32 (drop (32 * place) bytes) (omega (arith, length-drop (32 * place) bytes))

-- all other slots are the same
same_slot : (place at : ℕ) (old new : List ℕ) → DiffersInSlot place old new → (at < place) ⊎ (place < at) → slot_at new at ≡ slot_at old at
same_slot place at old new differs apart =
    let as_long : length (slot_at new at) ≡ length (slot_at old at) =
    omega (
      arith,
      length-take 32 (drop (32 * at) new),
      length-take 32 (drop (32 * at) old),
      length-drop (32 * at) new,
      length-drop (32 * at) old,
      differs.counted,
    ) in
    ext_get_or 0 (slot_at new at) (slot_at old at) as_long (λ i inside.
    let early : i < 32 = omega (arith, inside, length-take 32 (drop (32 * at) new)) in
    index_slot new at i early
    ∙ elim apart [
      | inl less ↦ differs.before (32 * at + i) (omega (arith, less))
      | inr more ↦ differs.after (32 * at + i) (omega (arith, more))
    ]
    ∙ sym (index_slot old at i early))

-- so are their gates
same_gate : (place at : ℕ) (old new : List ℕ) → DiffersInSlot place old new → (at < place) ⊎ (place < at)
    → IsOpenSlot new at → IsOpenSlot old at
same_gate place at old new differs apart is_open = record {
  whole = omega (arith, is_open.whole, differs.counted);
  gate = subst (λ slot. slice_index slot 0 ≡ 43) (same_slot place at old new differs apart) is_open.gate;
}

-- The first free slot of a journal that has no fault.
module _ (last : ℕ) (old new : List ℕ) (read : JournalRead) (right : IsRightJournal last old read) (free : 1 ≤ read.free)
    (differs : DiffersInSlot (length read.marks) old new) where
  abbrev count : ℕ
  count = length read.marks

  abbrev places : ℕ
  places = length read.marks + read.free

  -- a slot after it is closed as before
  closed_after : (at : ℕ) → count < at → at < places → ¬ IsOpenSlot new at
  closed_after at late inside is_open =
      right.slots.closed at (omega (arith, late)) inside (same_gate count at old new differs (inr late) is_open)

  -- a slot before it spells its mark as before
  spelled_before : (at : ℕ) (mark : Mark) → at < count → SpellsMark (slot_at old at) mark → SpellsMark (slot_at new at) mark
  spelled_before at mark early spelled = subst (λ slot. SpellsMark slot mark) (sym (same_slot count at old new differs (inl early))) spelled

  -- while its gate is closed, the journal gives the same
  pub right_closed : ¬ (slice_index (slot_at new count) 0 ≡ 43) → IsRightJournal last new read
  right_closed closed = record {
    slots = record {
      within = omega (arith, right.all, differs.counted);
      few = right.slots.few;
      spelled = λ at mark is. spelled_before at mark (slice_get_within read.marks at mark is) (right.slots.spelled at mark is);
      closed = λ at past inside. elim (cases_order at count) [
        | inl here ↦ λ is_open. closed (subst (λ p. slice_index (slot_at new p) 0 ≡ 43) here is_open.gate)
        | inr apart ↦ elim apart [ inl less ↦ absurd (omega (arith, less, past)) | inr more ↦ closed_after at more inside ]
      ];
      legal = right.slots.legal;
      drawn = right.slots.drawn;
    };
    all = omega (arith, right.all, differs.counted);
  }

  -- once it spells a mark, the journal has that mark more
  pub right_open : (mark : Mark) → SpellsMark (slot_at new count) mark → IsLegalAfter read.marks mark → is_drawn last mark ≡ true
      → IsRightJournal last new (added read mark)
  right_open mark spelled legal drawn =
      let long : length (read.marks ++ mark ∷ []) ≡ suc count = simp length-append (omega arith) in
      record {
        slots = record {
          within = omega (arith, right.all, differs.counted, long);
          few = omega (arith, long);
          spelled = λ at found is. elim (get_more read.marks mark at found is) [
            | inl before ↦ spelled_before at found (slice_get_within read.marks at found before) (right.slots.spelled at found before)
            | inr here ↦ subst (λ p. SpellsMark (slot_at new p) found) (sym here.0) (subst (SpellsMark (slot_at new count)) here.1 spelled)
          ];
          closed = λ at past inside. closed_after at (omega (arith, past, long)) (omega (arith, inside, long));
          legal = legal_more [] read.marks mark right.slots.legal legal;
          drawn = λ number named. elim (named_more number read.marks mark named) [
            | inl before ↦ right.slots.drawn number before
            | inr here ↦ drawn_names last number mark drawn here
          ];
        };
        all = omega (arith, right.all, differs.counted, long);
      }
