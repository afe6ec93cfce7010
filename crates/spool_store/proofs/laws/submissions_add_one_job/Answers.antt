use Rattle.spool_store.proofs.AddedJobs.{submissions_add_one_job as law}
use Rattle.spool_store.proofs.laws.submissions_add_one_job.Goals as goal

pub returns : goal.returns
returns c = law
