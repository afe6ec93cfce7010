use Rattle.start_journal.proofs.KeepLemmas.{forgotten_pass}
use Rattle.start_journal.proofs.kept_marks.forgotten.Goals as goal

pub loop-mark-preserved : goal.loop-mark-preserved
loop-mark-preserved c = λ number.
    forgotten_pass number c.args.marks.now c.loop-mark.mark-index _ _ _ c.loop-mark-test.true (c.loop-mark.invariant number)
    (c.in_ok-forget.ensures number)
