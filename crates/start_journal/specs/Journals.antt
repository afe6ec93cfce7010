-- The journal (own): the marks that the bytes of `.JRN` give, slot by slot of 32 bytes.
use Rattle.std.specs.Prelude.{◌≡◌, ◌==◌, ◌&&◌, ◌+◌, ◌*◌, ◌/◌, ◌%◌, ◌++◌, ℕ, Bool, true, not, List, [], ◌∷◌, Option, Some, None, Result, Ok, Err, All, codes, length, replicate, slice_index, nat_le, if◌then◌else◌}
use Rattle.std.specs.List.{concat, list_all}
use Rattle.std.specs.Simd.{first_chunks}
use Rattle.host_calls.specs.declared.damage.Damage.{Damage}
use Rattle.host_calls.specs.Damages.{damage_at}
use Rattle.start_journal.specs.declared.mark.Mark.{Mark}
use Rattle.start_journal.specs.declared.mark.Mark.TheVariants.{Removed, Started, Ended, Interrupted, Forgotten, Batch}
use Rattle.start_journal.specs.Marks.{is_decided, is_ended, is_forgotten, has_mark_of, has_start_of}
use Rattle.start_journal.specs.SlotBytes.{can_write, mark_in, right_prefix}
use Rattle.start_journal.specs.Slots.{IsWritable, SpellsMark}

-- the name of the journal
abbrev pub journal_file : List ℕ
journal_file = codes ".JRN"

-- the damage of the journal at the gate of its slot of this place
abbrev pub gate_damage : ℕ → Damage
gate_damage place = record { name = journal_file; offset = 32 * place; byte = Some 43 }

-- and at the queue in that slot
abbrev pub queue_damage : ℕ → ℕ → Damage
queue_damage place queue = record { name = journal_file; offset = 32 * place + 10; byte = Some queue }

-- a free slot: `-`, thirty points and a newline
unfoldable pub free_slot : List ℕ
free_slot = codes "-..............................\n"

-- the mark is legal after those before it, as a test
abbrev pub is_legal_after : List Mark → Mark → Bool
is_legal_after before (Removed number) = not (has_mark_of number before)
is_legal_after before (Started number queue second) = not (has_mark_of number before)
is_legal_after before (Ended number ending) = has_start_of number before && not (is_ended number before)
is_legal_after before (Interrupted number) = has_start_of number before && not (is_ended number before)
is_legal_after before (Forgotten number) = is_decided number before && not (is_forgotten number before)
is_legal_after before (Batch second) = true

-- each mark is legal after those before it, as a test
abbrev pub are_legal_after : List Mark → List Mark → Bool
are_legal_after before [] = true
are_legal_after before (mark ∷ later) = is_legal_after before mark && are_legal_after (before ++ mark ∷ []) later

-- the marks are legal, and each of them can be written
abbrev pub are_sound : List Mark → Bool
are_sound marks = are_legal_after [] marks && list_all can_write marks

-- the number that the mark names, if it names one, was drawn: it is at most the last
abbrev pub is_drawn : ℕ → Mark → Bool
is_drawn last (Removed number) = nat_le number last
is_drawn last (Started number queue second) = nat_le number last
is_drawn last (Ended number ending) = nat_le number last
is_drawn last (Interrupted number) = nat_le number last
is_drawn last (Forgotten number) = nat_le number last
is_drawn last (Batch second) = true

-- each number that the marks name was drawn
abbrev pub are_drawn : ℕ → List Mark → Bool
are_drawn last marks = list_all (is_drawn last) marks

-- each of the marks can be written
abbrev pub AreWritable : List Mark → Type 0
AreWritable marks = All IsWritable marks

-- what a journal gives: the marks of its open slots in their order, and how many slots are closed
pub record JournalRead : Type 0 where
  pub marks : List Mark
  pub free : ℕ

-- what no slot gives
abbrev pub nothing_read : JournalRead
nothing_read = record { marks = []; free = 0 }

-- one more mark, or one closed slot more
abbrev pub with_mark : JournalRead → Mark → JournalRead
with_mark read mark = record { marks = read.marks ++ mark ∷ []; free = read.free }

abbrev pub with_free : JournalRead → JournalRead
with_free read = record { marks = read.marks; free = read.free + 1 }

-- An open slot after others, or the place in it that breaks the form of the journal: after the bytes
-- that some mark's slot has too where it spells none, and its gate where its mark isn't legal or names
-- a number that was not drawn.
abbrev pub open_slot : ℕ → JournalRead → Option Mark → ℕ → Result JournalRead ℕ
open_slot last read None prefix = Err prefix
open_slot last read (Some mark) prefix =
    if is_legal_after read.marks mark && is_drawn last mark then Ok (with_mark read mark) else Err 0

-- A slot after others: one whose gate isn't `+` is closed. An open one after a closed one breaks the
-- form at its gate.
abbrev pub one_slot : ℕ → JournalRead → List ℕ → Result JournalRead ℕ
one_slot last read slot =
    if slice_index slot 0 == 43
    then (if read.free == 0 then open_slot last read (mark_in slot) (right_prefix slot) else Err 0)
    else Ok (with_free read)

-- what was read so far and one slot more, by its mark, if it is open
abbrev pub with_slot : JournalRead → Option Mark → JournalRead
with_slot read (Some mark) = with_mark read mark
with_slot read None = with_free read

-- what comes after a slot, or the offset of its fault
abbrev pub go_on : ℕ → (JournalRead → Result JournalRead ℕ) → Result JournalRead ℕ → Result JournalRead ℕ
go_on offset later (Ok read) = later read
go_on offset later (Err place) = Err (offset + place)

-- the slots from an offset on, after others, up to the first fault
abbrev pub all_slots : ℕ → ℕ → JournalRead → List (List ℕ) → Result JournalRead ℕ
all_slots last offset read [] = Ok read
all_slots last offset read (slot ∷ later) = go_on offset (λ more. all_slots last (offset + 32) more later) (one_slot last read slot)

-- after all slots, a rest of fewer than 32 bytes is a fault
abbrev pub whole_journal : List ℕ → Result JournalRead ℕ → Result JournalRead Damage
whole_journal bytes (Ok read) = if length bytes % 32 == 0 then Ok read else Err (damage_at journal_file bytes (length bytes / 32 * 32))
whole_journal bytes (Err offset) = Err (damage_at journal_file bytes offset)

-- What the journal gives where this number was drawn last, or its first fault. Without a file it gives
-- no mark and no free slot.
unfoldable pub journal_in : ℕ → Option (List ℕ) → Result JournalRead Damage
journal_in last None = Ok nothing_read
journal_in last (Some bytes) = whole_journal bytes (all_slots last 0 nothing_read (first_chunks 32 (length bytes / 32) bytes))

-- the content of a journal file gives these marks, and so many free slots
abbrev pub GivesMarks : Option (List ℕ) → List Mark → ℕ → Type 0
GivesMarks content marks free =
    (last : ℕ) → are_drawn last marks ≡ true → journal_in last content ≡ Ok (record { marks = marks; free = free })

-- the slots are those of the marks, in their order
abbrev pub SpellMarks : List (List ℕ) → List Mark → Type 0
SpellMarks [] [] = Unit {0}
SpellMarks (slot ∷ slots) (mark ∷ marks) = SpellsMark slot mark × SpellMarks slots marks
SpellMarks _ _ = ⊥

-- the bytes of a journal that was placed whole: the slots of the marks, and so many free slots
pub record SpellsJournal (bytes : List ℕ) (marks : List Mark) (free : ℕ) : Type 0 where
  pub slots : List (List ℕ)
  pub spelled : SpellMarks slots marks
  pub text : bytes ≡ concat slots ++ concat (replicate free free_slot)
