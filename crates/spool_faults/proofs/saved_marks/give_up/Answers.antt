use Rattle.std.proofs.lemmas.List.Elements.{All-get_or}
use Rattle.spool_faults.specs.Salvaged.{given_up}
use Rattle.start_journal.specs.Slots.{IsWritable}
use Rattle.spool_faults.proofs.SavingLists.{given_end, given_step}
use Rattle.spool_faults.proofs.saved_marks.give_up.Goals as goal

pub loop-mark-preserved : goal.loop-mark-preserved
loop-mark-preserved c = record {
  writable = λ each start. c.in_ok-keep_mark.ensures.writable (c.given_up.ensures.writable (All-get_or IsWritable c.args.marks.now
      c.loop-mark.mark-index _ c.loop-mark-test.true each)) (c.loop-mark.invariant.writable each start);
  saved = λ all files decided queues.
      given_step (given_up all files) c.args.marks.now c.loop-mark.mark-index _ c.args.saved.now.items c.loop-mark.saved.items
      c.keep_mark.new.saved.items c.given_up.result c.loop-mark-test.true
      (c.loop-mark.invariant.saved all files decided queues) c.in_ok-keep_mark.ensures.saved
      (c.given_up.ensures.given all files decided queues);
}

pub returns-clause-saved : goal.returns-clause-saved
returns-clause-saved c = λ all files decided queues.
    given_end (given_up all files) c.args.marks.now c.loop-mark.mark-index c.args.saved.now.items c.loop-mark.saved.items
    c.loop-mark-test.false (c.loop-mark.invariant.saved all files decided queues)
