use Rattle.step_runs.proofs.AttemptLemmas.{recoveries_begin_nothing, runs_after_recoveries}
use Rattle.step_runs.proofs.laws.runs_stand_after_recoveries.Goals as goal

pub returns-clause-alone : goal.returns-clause-alone
returns-clause-alone c = recoveries_begin_nothing

pub returns-clause-begun : goal.returns-clause-begun
returns-clause-begun c = runs_after_recoveries
