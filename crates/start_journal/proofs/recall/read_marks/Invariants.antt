use Rattle.std.proofs.Common.{◌≡◌, ◌*◌, ◌≤◌, drop}
use Rattle.start_journal.specs.Journals.{all_slots, nothing_read}
use Rattle.start_journal.specs.Lifecycles.{TellLifecycles}
use Rattle.start_journal.proofs.recall.read_marks.Given as goal

abbrev pub invariant-loop-place : goal.invariant-loop-place
invariant-loop-place l = record {
  after : all_slots l.last 0 nothing_read l.slots
      ≡ all_slots l.last (l.place * 32) (record { marks = l.marks.items; free = l.free }) (drop l.place l.slots);
  tell : TellLifecycles l.marks.items l.lives;
  few : l.free ≤ l.place;
}
