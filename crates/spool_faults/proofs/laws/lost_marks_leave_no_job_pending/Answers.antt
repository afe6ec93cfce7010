use Rattle.spool_faults.proofs.StartsKept.{lost_marks_leave_no_job_pending as law}
use Rattle.spool_faults.proofs.laws.lost_marks_leave_no_job_pending.Goals as goal

pub returns : goal.returns
returns c = law
