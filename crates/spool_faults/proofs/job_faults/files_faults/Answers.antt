use Rattle.spool_faults.proofs.JobFaults.{files_end, files_at, numbers_at}
use Rattle.spool_faults.proofs.job_faults.files_faults.Goals as goal

pub loop-file-preserved : goal.loop-file-preserved
loop-file-preserved c = record {
  numbers = numbers_at c.args.files.now c.loop-file.file-index c.file-item.result c.loop-file.before c.add_number.new.before
      c.loop-file-test.true c.file-item.is c.loop-file.invariant.numbers c.in_ok-add_number.ensures;
  faults = files_at c.args.bound c.loop-file.file-index c.args.files.now c.file-item.result c.loop-file.faults.items
      c.push_fault.new.faults.items _ c.fault.result c.loop-file-test.true c.file-item.is c.loop-file.invariant.faults
      c.in_ok-push_fault.ensures (c.fault.ensures _ c.loop-file.invariant.numbers);
}

pub returns : goal.returns
returns c = files_end c.args.bound c.loop-file.file-index c.args.files.now c.loop-file.faults.items _ _ c.loop-file-test.false
    c.loop-file.invariant.faults
