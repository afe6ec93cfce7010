use Rattle.step_runs.proofs.MadeLemmas.{made_steps_are_stopped, no_steps_are_made, steps_are_made_after, steps_are_stopped_after}
use Rattle.step_runs.proofs.made.steps_join.Goals as goal

pub returns-clause-none : goal.returns-clause-none
returns-clause-none c = no_steps_are_made

pub returns-clause-made : goal.returns-clause-made
returns-clause-made c = steps_are_made_after

pub returns-clause-stopped : goal.returns-clause-stopped
returns-clause-stopped c = steps_are_stopped_after

pub returns-clause-ended : goal.returns-clause-ended
returns-clause-ended c = made_steps_are_stopped
