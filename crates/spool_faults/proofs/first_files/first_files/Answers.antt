use Rattle.spool_faults.proofs.FirstFound.{first_at, first_end}
use Rattle.spool_faults.proofs.first_files.first_files.Goals as goal

pub loop-file-preserved : goal.loop-file-preserved
loop-file-preserved c = first_at c.args.files.now c.loop-file.file-index c.file-item.result c.add_first.new.firsts c.loop-file-test.true
    c.file-item.is (c.in_ok-add_first.ensures _ c.loop-file.invariant)

pub returns : goal.returns
returns c = first_end c.args.files.now c.loop-file.file-index c.loop-file.firsts c.loop-file-test.false c.loop-file.invariant
