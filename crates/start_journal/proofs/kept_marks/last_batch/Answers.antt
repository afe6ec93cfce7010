use Rattle.start_journal.proofs.KeepLemmas.{pass_more}
use Rattle.start_journal.proofs.kept_marks.last_batch.Goals as goal

pub loop-mark-preserved : goal.loop-mark-preserved
loop-mark-preserved c =
    pass_more c.args.marks.now c.loop-mark.mark-index _ c.batch_second.result c.loop-mark.last c.or-last.result c.loop-mark-test.true
    c.batch_second.ensures c.loop-mark.invariant c.or-last.ensures
