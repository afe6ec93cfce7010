use Rattle.step_runs.proofs.GoodLemmas.{begun_attempts_keep_good, recoveries_keep_good, runs_keep_good, store_calls_keep_good, unbegun_attempts_keep_good}
use Rattle.step_runs.proofs.laws.good_directories_stay_good.Goals as goal

pub returns-clause-recoveries : goal.returns-clause-recoveries
returns-clause-recoveries c = recoveries_keep_good

pub returns-clause-calls : goal.returns-clause-calls
returns-clause-calls c = store_calls_keep_good

pub returns-clause-runs : goal.returns-clause-runs
returns-clause-runs c = runs_keep_good

pub returns-clause-unbegun : goal.returns-clause-unbegun
returns-clause-unbegun c = unbegun_attempts_keep_good

pub returns-clause-begun : goal.returns-clause-begun
returns-clause-begun c = begun_attempts_keep_good
