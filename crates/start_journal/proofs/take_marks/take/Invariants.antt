use Rattle.std.specs.Prelude.{All}
use Rattle.std.proofs.Common.{◌≡◌, ◌*◌, ◌≤◌, ◌++◌, [], drop}
use Rattle.start_journal.specs.Journals.{nothing_read}
use Rattle.start_journal.specs.Lifecycles.{TellLifecycles}
use Rattle.start_journal.specs.Taken.{IsSlotWithinFile, marks_of, slot_faults, taken_from}
use Rattle.start_journal.proofs.take_marks.take.Given as goal

abbrev pub invariant-loop-place : goal.invariant-loop-place
invariant-loop-place l = record {
  marks : l.marks.items ++ taken_from l.place (marks_of l.marks.items) (drop l.place l.slots) ≡ taken_from 0 [] l.slots;
  faults : l.faults.items
      ++ slot_faults l.bound (l.place * 32) (record { marks = marks_of l.marks.items; free = l.free }) (drop l.place l.slots)
      ≡ slot_faults l.bound 0 nothing_read l.slots;
  tell : TellLifecycles (marks_of l.marks.items) l.lives;
  few : l.free ≤ l.place;
  near : All IsSlotWithinFile l.marks.items;
}
