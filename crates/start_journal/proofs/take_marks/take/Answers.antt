use Rattle.std.proofs.Common.{ap, arith, ◌∙◌}
use Rattle.start_journal.specs.Journals.{JournalRead}
use Rattle.start_journal.specs.Taken.{marks_of}
use Rattle.start_journal.proofs.TakenLemmas.{faults_all, faults_and_rest, faults_step, marks_all, marks_step, lives_step}
use Rattle.start_journal.proofs.take_marks.take.Goals as goal
use Rattle.start_journal.proofs.take_marks.take.Goals.{then-not-is_empty+in_ok-push, else-not-is_empty}

pub loop-place-preserved : goal.loop-place-preserved
loop-place-preserved c =
    let so_far = marks_of c.loop-place.marks.items in
    let found = c.legal_mark-mark.ensures so_far c.loop-place.invariant.tell in
    record {
      marks = marks_step c.loop-place.place c.as_chunks.result.0.now c.loop-place.marks.items c.keep_taken.new.marks.items _
          c.legal_mark-mark.result _ c.loop-place-test.true c.loop-place.invariant.marks c.in_ok-keep_taken.ensures.marks found;
      faults = faults_step c.args.bound c.loop-place.place c.loop-place.free c.closed-free.result
          c.as_chunks.result.0.now c.loop-place.marks.items c.keep_taken.new.marks.items c.loop-place.faults.items
          c.push_offset.new.faults.items _ c.legal_mark-mark.result c.slot_fault-fault.result _ c.loop-place-test.true
          c.loop-place.invariant.faults c.in_ok-keep_taken.ensures.marks found c.in_ok-push_offset.ensures
          (c.slot_fault-fault.ensures.fault so_far c.loop-place.invariant.tell) (c.closed-free.ensures.closed c.loop-place.free);
      tell = lives_step c.loop-place.marks.items c.keep_taken.new.marks.items c.loop-place.place
          _ c.legal_mark-mark.result c.keep_taken.new.lives c.in_ok-keep_taken.ensures.marks found
          (c.in_ok-keep_taken.ensures.lives so_far c.loop-place.invariant.tell);
      few = omega (arith, c.loop-place.invariant.few, c.closed-free.ensures.few);
      near = c.in_ok-keep_taken.ensures.near c.loop-place.invariant.near;
    }

pub returns-clause-marks : goal.returns-clause-marks
returns-clause-marks c = marks_all c.loop-place.place c.args.bytes.now c.as_chunks.result.0.now c.loop-place.marks.items
    c.as_chunks.ensures.front c.loop-place-test.false c.loop-place.invariant.marks

pub returns-clause-faults : goal.returns-clause-faults
returns-clause-faults c =
    let read : JournalRead = record { marks = marks_of c.loop-place.marks.items; free = c.loop-place.free } in
    elim c.if-not-is_empty.branch [
      | then-not-is_empty+in_ok-push w ↦ faults_and_rest c.args.bound c.loop-place.place _ c.args.bytes.now c.as_chunks.result.0.now
          read c.loop-place.faults.items c.if-not-is_empty.faults.items c.as_chunks.ensures.front c.loop-place-test.false
          c.loop-place.invariant.faults c.as_chunks.ensures.front_len c.as_chunks.ensures.back_len w.if-not-is_empty.ensures
          (ap (λ v. v.items) w.faults-is ∙ w.in_ok-push.ensures.items)
      | else-not-is_empty w ↦ faults_all c.args.bound c.loop-place.place _ c.args.bytes.now c.as_chunks.result.0.now
          read c.loop-place.faults.items c.if-not-is_empty.faults.items c.as_chunks.ensures.front c.loop-place-test.false
          c.loop-place.invariant.faults c.as_chunks.ensures.back_len w.if-not-is_empty.ensures (ap (λ v. v.items) w.faults-is)
    ]
