use Rattle.spool_faults.proofs.FoundFiles.{decided_all, decided_pass}
use Rattle.spool_faults.proofs.find_files.decided.Goals as goal

pub loop-mark-preserved : goal.loop-mark-preserved
loop-mark-preserved c = λ number.
    decided_pass number c.args.marks.now c.loop-mark.mark-index _ _ _ c.loop-mark-test.true (c.loop-mark.invariant number)
    (c.in_ok-note_decided.ensures number)

pub returns : goal.returns
returns c = decided_all c.args.marks.now c.loop-mark.mark-index c.loop-mark.decided c.loop-mark-test.false c.loop-mark.invariant
