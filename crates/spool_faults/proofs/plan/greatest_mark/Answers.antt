use Rattle.std.specs.List.{filter_map}
use Rattle.spool_faults.specs.Salvaged.{greatest}
use Rattle.start_journal.specs.Marks.{number_of_mark}
use Rattle.spool_faults.proofs.SavingLists.{greatest_end, greatest_step}
use Rattle.spool_faults.proofs.plan.greatest_mark.Goals as goal

pub loop-mark-preserved : goal.loop-mark-preserved
loop-mark-preserved c =
    greatest_step number_of_mark c.args.marks.now c.loop-mark.mark-index _ c.loop-mark.last c.greater-last.result
    (greatest c.args.least (filter_map number_of_mark c.args.marks.now)) c.number.result c.loop-mark-test.true c.loop-mark.invariant
    c.greater-last.ensures c.number.ensures

pub returns : goal.returns
returns c = greatest_end number_of_mark c.args.marks.now c.loop-mark.mark-index c.loop-mark.last
    (greatest c.args.least (filter_map number_of_mark c.args.marks.now)) c.loop-mark-test.false c.loop-mark.invariant
