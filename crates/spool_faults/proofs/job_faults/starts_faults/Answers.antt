use Rattle.spool_faults.proofs.JobFaults.{starts_end, starts_step}
use Rattle.spool_faults.proofs.job_faults.starts_faults.Goals as goal

pub loop-one-preserved : goal.loop-one-preserved
loop-one-preserved c = λ all files decided queues.
    starts_step all files c.args.marks.now c.loop-one.one-index _ c.args.faults.now.items c.loop-one.faults.items
    c.push_fault.new.faults.items c.start_damage.result c.loop-one-test.true (c.loop-one.invariant all files decided queues)
    c.in_ok-push_fault.ensures (c.start_damage.ensures all files decided queues)

pub returns : goal.returns
returns c = λ all files decided queues.
    starts_end all files c.args.marks.now c.loop-one.one-index c.args.faults.now.items c.loop-one.faults.items c.loop-one-test.false
    (c.loop-one.invariant all files decided queues)
