use Rattle.spool_faults.proofs.SavingLists.{named_all, named_pass}
use Rattle.spool_faults.proofs.saved_marks.named_numbers.Goals as goal

pub loop-mark-preserved : goal.loop-mark-preserved
loop-mark-preserved c = λ number.
    named_pass number c.args.marks.now c.loop-mark.mark-index _ _ _ c.loop-mark-test.true (c.loop-mark.invariant number)
    (c.in_ok-add_named.ensures number)

pub returns : goal.returns
returns c = named_all c.args.marks.now c.loop-mark.mark-index c.loop-mark.named c.loop-mark-test.false c.loop-mark.invariant
