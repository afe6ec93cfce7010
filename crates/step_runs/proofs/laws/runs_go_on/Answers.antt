use Rattle.step_runs.proofs.RunLemmas.{prefixes_run_as_the_steps, runs_go_on, runs_go_through}
use Rattle.step_runs.proofs.laws.runs_go_on.Goals as goal

pub returns-clause-on : goal.returns-clause-on
returns-clause-on c = runs_go_on

pub returns-clause-through : goal.returns-clause-through
returns-clause-through c = runs_go_through

pub returns-clause-prefixes : goal.returns-clause-prefixes
returns-clause-prefixes c = prefixes_run_as_the_steps
