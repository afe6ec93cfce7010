use Rattle.at_mail.proofs.RevivingLemmas.{steps_revive_no_job}
use Rattle.at_mail.proofs.trim_laws.steps_revive_no_job.Goals as goal

pub returns : goal.returns
returns c = steps_revive_no_job
