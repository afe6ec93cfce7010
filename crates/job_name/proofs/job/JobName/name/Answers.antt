use Rattle.std.proofs.Common.{sym, subst}
use Rattle.host_calls.specs.Names.{IsName}
use Rattle.job_name.proofs.JobNameLemmas.{job_is_name}
use Rattle.job_name.proofs.job.JobName.name.Goals as goal

pub unwrap-requires : goal.unwrap-requires
unwrap-requires c = c.of.ensures.valid.1 (subst IsName (sym c.as_slice.ensures.value) (job_is_name _ _ _ _ _ c.text.ensures))
