use Rattle.step_runs.proofs.RunLemmas.{calls_are_runs, one_step_is_a_run}
use Rattle.step_runs.proofs.laws.calls_are_runs.Goals as goal

pub returns-clause-quiet : goal.returns-clause-quiet
returns-clause-quiet c = calls_are_runs

pub returns-clause-one_step : goal.returns-clause-one_step
returns-clause-one_step c = one_step_is_a_run
