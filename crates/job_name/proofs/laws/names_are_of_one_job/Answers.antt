use Rattle.job_name.proofs.JobNameLemmas.{one_name, one_text}
use Rattle.job_name.proofs.NamedJobs.{name_given, name_spelled}
use Rattle.job_name.proofs.laws.names_are_of_one_job.Goals as goal

pub returns-clause-named : goal.returns-clause-named
returns-clause-named c name job = (name_spelled name job, name_given name job.queue job.number job.minute job.new_form)

pub returns-clause-names : goal.returns-clause-names
returns-clause-names c = one_text

pub returns-clause-jobs : goal.returns-clause-jobs
returns-clause-jobs c = one_name
