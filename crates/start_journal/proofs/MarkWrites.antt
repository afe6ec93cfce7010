-- A mark that is added to the journal of a directory: what a crash leaves after each of the two writes.
use Rattle.std.proofs.Common.{◌≡◌, ℕ, ◌+◌, ◌*◌, ◌≤◌, true, false, List, length, take, drop, sym, ap, subst, ◌∙◌, inl, inr, arith, get_or-take}
use Rattle.std.specs.Prelude.{Option, Some, IsSomeAnd, option_map, slice_index}
use Rattle.std.specs.FinMap as map
use Rattle.std.proofs.lemmas.Bool.Decides.{eqb_tells}
use Rattle.std.proofs.lemmas.List.{length-take-le}
use Rattle.std.proofs.lemmas.Slice.Eq.{bytes_eq-Decides}
use Rattle.host_calls.specs.Directory.{Files, Directory, IsImage, overwritten, reading_of}
use Rattle.host_calls.specs.World.{IsWithinFile, World}
use Rattle.whole_file.specs.Others.{ChangesFiles, IsEither, LeavesOthers}
use Rattle.whole_file.specs.Temporary.{temporary_file}
use Rattle.whole_file.proofs.ChangesJoined.{changes_on, changes_weaker}
use Rattle.start_journal.specs.declared.mark.Mark.{Mark}
use Rattle.start_journal.specs.JournalChange.{GivesReadJournal, HoldsJournal, IsChanged, IsChanging, added}
use Rattle.start_journal.specs.Journals.{JournalRead, journal_file}
use Rattle.start_journal.specs.Marks.{IsLegalAfter}
use Rattle.start_journal.specs.Slots.{SpellsMark}
use Rattle.start_journal.specs.inside.Overwrite.{IsOverwriting, IsOverwritten}
use Rattle.start_journal.proofs.ByteRanges.{over_long}
use Rattle.start_journal.proofs.SlotWrites.{HasBytes, closed_gives, half_gives, has_bytes, open_gives, rest_long}

-- a file that is being made is not the journal
temporary_apart : ¬ (temporary_file ≡ journal_file)
temporary_apart same = let impossible : true ≡ false = sym ((bytes_eq-Decides temporary_file journal_file).1 same) in cc

-- one file was left alone, and then it was again
through : (name : List ℕ) (start middle : Directory) (image : Files)
    → ((from : Files) → IsImage middle from → LeavesOthers (λ other. other ≡ name) start from)
    → LeavesOthers (λ other. other ≡ name) middle image → LeavesOthers (λ other. other ≡ name) start image
through name start middle image before alone =
    let first : LeavesOthers (λ other. other ≡ name) start alone.from = before alone.from alone.was in
    record { from = first.from; was = first.was; others = λ other apart. alone.others other apart ∙ first.others other apart }

module _ (name : List ℕ) (journal : JournalRead) (mark : Mark) (slot : List ℕ) (offset : ℕ) (start : Directory)
    (is_name : name ≡ journal_file) (free : 1 ≤ journal.free) (legal : IsLegalAfter journal.marks mark) (spelled : SpellsMark slot mark)
    (at : offset ≡ 32 * length journal.marks) (holds : HoldsJournal journal start) where
  gives_there : GivesReadJournal (map.get (reading_of start) name) journal
  gives_there = subst (λ at_name. GivesReadJournal (map.get (reading_of start) at_name) journal) (sym is_name) holds.gives

  held : HasBytes (map.get (reading_of start) name) journal
  held = has_bytes (map.get (reading_of start) name) journal free gives_there

  gives : GivesReadJournal (Some held.bytes) journal
  gives = subst (λ content. GivesReadJournal content journal) held.is gives_there

  -- the slot after its gate, and its gate
  abbrev rest : List ℕ
  rest = take 31 (drop 1 slot)

  abbrev gate : List ℕ
  gate = take 1 slot

  gate_long : length gate ≡ 1
  gate_long = length-take-le 1 slot (omega (arith, spelled.fields.counted))

  after_long : length rest ≡ 31
  after_long = rest_long journal mark slot held.bytes free legal spelled gives held.long

  -- the slot lies within the file
  pub rest_within : IsWithinFile (reading_of start) name (offset + 1) (length rest)
  rest_within = subst (λ content. IsSomeAnd content (λ bytes. offset + 1 + length rest ≤ length bytes)) (sym held.is)
      (omega (arith, held.long, after_long))

  -- other files are left alone
  widened : (image : Files) → LeavesOthers (λ other. other ≡ name) start image
      → LeavesOthers (IsEither temporary_file journal_file) start image
  widened image alone =
      record { from = alone.from; was = alone.was; others = λ other apart. alone.others other (λ same. apart (inr (same ∙ is_name))) }

  -- while the slot is written after its gate
  half_changing : (image : Files) → IsOverwriting name (offset + 1) (length rest) start image
      → IsChanging journal (added journal mark) start image
  half_changing image over = record {
    alone = widened image over.alone;
    gives = inl (subst (λ content. GivesReadJournal content journal)
        (sym (ap (map.get image) (sym is_name) ∙ over.written ∙ ap (option_map (λ bytes. overwritten bytes (offset + 1) over.part)) held.is
        ∙ ap (λ n. Some (overwritten held.bytes (n + 1) over.part)) at))
        (half_gives journal mark slot held.bytes free legal spelled gives held.long over.part (over.as_long ∙ after_long)));
  }

  pub half_files : (old new : World) → ChangesFiles (IsOverwriting name (offset + 1) (length rest) start) old new
      → ChangesFiles (IsChanging journal (added journal mark) start) old new
  half_files old new changes = changes_weaker _ _ old new half_changing changes

  -- once it is
  module _ (middle : Directory) (half : IsOverwritten name (offset + 1) rest start middle) where
    reads_half : map.get (reading_of middle) name ≡ Some (overwritten held.bytes (32 * length journal.marks + 1) rest)
    reads_half = half.written ∙ ap (option_map (λ bytes. overwritten bytes (offset + 1) rest)) held.is
        ∙ ap (λ n. Some (overwritten held.bytes (n + 1) rest)) at

    pub gate_within : IsWithinFile (reading_of middle) name offset (length gate)
    gate_within = subst (λ content. IsSomeAnd content (λ bytes. offset + length gate ≤ length bytes)) (sym reads_half)
        (omega (
          arith,
          held.long,
          gate_long,
          after_long,
          over_long held.bytes (32 * length journal.marks + 1) rest (omega (arith, held.long, after_long)),
        ))

    -- what the file reads as with some byte at the gate
    reads_whole : (content : Option (List ℕ)) (part : List ℕ)
        → content ≡ option_map (λ bytes. overwritten bytes offset part) (map.get (reading_of middle) name)
        → content ≡ Some (overwritten (overwritten held.bytes (32 * length journal.marks + 1) rest) (32 * length journal.marks) part)
    reads_whole content part is =
        is ∙ ap (option_map (λ bytes. overwritten bytes offset part)) reads_half
        ∙ ap (λ n. Some (overwritten (overwritten held.bytes (32 * length journal.marks + 1) rest) n part)) at

    -- with the gate open
    opened : (content : Option (List ℕ)) (part : List ℕ) → length part ≡ 1 → slice_index part 0 ≡ 43
        → content ≡ option_map (λ bytes. overwritten bytes offset part) (map.get (reading_of middle) name)
        → GivesReadJournal content (added journal mark)
    opened content part one open_gate is =
        subst (λ some. GivesReadJournal some (added journal mark)) (sym (reads_whole content part is))
        (open_gives journal mark slot held.bytes free legal spelled gives held.long part one open_gate)

    closed : (content : Option (List ℕ)) (part : List ℕ) → length part ≡ 1 → ¬ (slice_index part 0 ≡ 43)
        → content ≡ option_map (λ bytes. overwritten bytes offset part) (map.get (reading_of middle) name)
        → GivesReadJournal content journal
    closed content part one closed_gate is =
        subst (λ some. GivesReadJournal some journal) (sym (reads_whole content part is))
        (closed_gives journal mark slot held.bytes free legal spelled gives held.long rest after_long part one closed_gate)

    -- while the gate is written
    gate_changing : (image : Files) → IsOverwriting name offset (length gate) middle image
        → IsChanging journal (added journal mark) start image
    gate_changing image over = record {
      alone = widened image (through name start middle image half.alone over.alone);
      gives = elim (eqb_tells (slice_index over.part 0) 43) [
        | inl open_gate ↦ inr (opened (map.get image journal_file) over.part (over.as_long ∙ gate_long) open_gate.1
            (ap (map.get image) (sym is_name) ∙ over.written))
        | inr other ↦ inl (closed (map.get image journal_file) over.part (over.as_long ∙ gate_long) other.1
            (ap (map.get image) (sym is_name) ∙ over.written))
      ];
    }

    pub gate_files : (old between new : World) → ChangesFiles (IsOverwriting name (offset + 1) (length rest) start) old between
        → ChangesFiles (IsOverwriting name offset (length gate) middle) between new
        → ChangesFiles (IsChanging journal (added journal mark) start) old new
    gate_files old between new first second = changes_on _ _ _ old between new half_changing gate_changing first second

    -- and once it is
    pub is_added : (new : Directory) → IsOverwritten name offset gate middle new → IsChanged (added journal mark) start new
    is_added new whole = record {
      holds = record {
        durable = whole.durable.durable;
        same = λ image is. ap (map.get image) (sym is_name) ∙ whole.durable.same image is ∙ ap (map.get (reading_of new)) is_name;
        gives = opened (map.get (reading_of new) journal_file) gate gate_long
            (get_or-take 1 slot 0 0 (omega arith) ∙ spelled.fields.gate) (ap (map.get (reading_of new)) (sym is_name) ∙ whole.written);
        no_temp = λ image is.
            let from : LeavesOthers (λ other. other ≡ name) start image =
            through name start middle image half.alone (whole.alone image is) in
            from.others temporary_file (λ same. temporary_apart (same ∙ is_name)) ∙ holds.no_temp from.from from.was;
      };
      others = λ other apart. whole.others other (λ same. apart (inr (same ∙ is_name)))
          ∙ half.others other (λ same. apart (inr (same ∙ is_name)));
    }
