use Rattle.step_runs.proofs.MadeLemmas.{made_steps_are_achieved, stopped_steps_are_begun}
use Rattle.step_runs.proofs.made.made_steps_are_attempts.Goals as goal

pub returns-clause-achieved : goal.returns-clause-achieved
returns-clause-achieved c = made_steps_are_achieved

pub returns-clause-begun : goal.returns-clause-begun
returns-clause-begun c = stopped_steps_are_begun
