-- What is taken of a journal that may have faults (own): the marks of its open slots that are spelled and legal after
-- those taken before them, and the offsets of all its faults. Reading goes on after a fault.
use Rattle.std.specs.Prelude.{◌+◌, ◌*◌, ◌^◌, ◌<◌, ◌/◌, ◌%◌, ◌==◌, ◌++◌, [], ◌∷◌, ℕ, List, Option, Some, None, Result, Ok, Err, length, map, slice_index, if◌then◌else◌}
use Rattle.std.specs.Simd.{first_chunks}
use Rattle.host_calls.specs.declared.damage.Damage.{Damage}
use Rattle.host_calls.specs.Damages.{damage_at}
use Rattle.start_journal.specs.declared.mark.Mark.{Mark}
use Rattle.start_journal.specs.declared.take_marks.TakenMark.{TakenMark}
use Rattle.start_journal.specs.Journals.{JournalRead, is_legal_after, journal_file, nothing_read, one_slot}
use Rattle.start_journal.specs.SlotBytes.{mark_in}

-- the whole slots of the bytes
abbrev pub slots_of : List ℕ → List (List ℕ)
slots_of bytes = first_chunks 32 (length bytes / 32) bytes

-- the mark, where it is legal after those before it
abbrev pub legal_mark : List Mark → Option Mark → Option Mark
legal_mark before (Some mark) = if is_legal_after before mark then Some mark else None
legal_mark before None = None

-- the marks with one more, if there is one
abbrev pub with_taken : List Mark → Option Mark → List Mark
with_taken before (Some mark) = before ++ mark ∷ []
with_taken before None = before

-- the mark of the slot at a place, if there is one
abbrev pub taken_at : ℕ → Option Mark → List TakenMark
taken_at place (Some mark) = record { place = place; mark = mark } ∷ []
taken_at place None = []

-- the marks that are taken of slots from a place on, after others
abbrev pub taken_from : ℕ → List Mark → List (List ℕ) → List TakenMark
taken_from place before [] = []
taken_from place before (slot ∷ later) =
    taken_at place (legal_mark before (mark_in slot))
    ++ taken_from (place + 1) (with_taken before (legal_mark before (mark_in slot))) later

-- the marks that are taken of a journal, each with the place of its slot; without a file there is none
unfoldable pub taken_of : Option (List ℕ) → List TakenMark
taken_of None = []
taken_of (Some bytes) = taken_from 0 [] (slots_of bytes)

-- the marks alone
abbrev pub marks_of : List TakenMark → List Mark
marks_of taken = map (λ one. one.mark) taken

-- the marks that are taken of a journal
abbrev pub marks_taken : Option (List ℕ) → List Mark
marks_taken content = marks_of (taken_of content)

-- the slot of the mark lies within a file
abbrev pub IsSlotWithinFile : TakenMark → Type 0
IsSlotWithinFile one = 32 * one.place + 32 < 2 ^ 64

-- how many slots are closed, with one slot more
abbrev pub free_after : ℕ → List ℕ → ℕ
free_after free slot = if slice_index slot 0 == 43 then free else free + 1

-- what was read, and one slot more, be it wrong or not
abbrev pub read_past : JournalRead → List ℕ → JournalRead
read_past read slot =
    record { marks = with_taken read.marks (legal_mark read.marks (mark_in slot)); free = free_after read.free slot }

-- the place of a slot's fault, if it has one
abbrev pub place_of_fault : Result JournalRead ℕ → Option ℕ
place_of_fault (Ok read) = None
place_of_fault (Err place) = Some place

-- the offset of that place, where the slot begins at the offset given
abbrev pub offset_of : ℕ → Option ℕ → List ℕ
offset_of offset (Some place) = (offset + place) ∷ []
offset_of offset None = []

-- the offsets of the faults of slots from an offset on, after others; no mark may name a number above the bound
abbrev pub slot_faults : ℕ → ℕ → JournalRead → List (List ℕ) → List ℕ
slot_faults bound offset read [] = []
slot_faults bound offset read (slot ∷ later) =
    offset_of offset (place_of_fault (one_slot bound read slot)) ++ slot_faults bound (offset + 32) (read_past read slot) later

-- after all slots, a rest of fewer than 32 bytes is a fault at its first byte
abbrev pub rest_fault : List ℕ → List ℕ
rest_fault bytes = if length bytes % 32 == 0 then [] else (length bytes / 32 * 32) ∷ []

-- the offsets of all faults of the bytes
unfoldable pub faults_in : ℕ → List ℕ → List ℕ
faults_in bound bytes = slot_faults bound 0 nothing_read (slots_of bytes) ++ rest_fault bytes

-- the faults of a journal; without a file there is none
abbrev pub journal_faults : ℕ → Option (List ℕ) → List Damage
journal_faults bound None = []
journal_faults bound (Some bytes) = map (damage_at journal_file bytes) (faults_in bound bytes)
