use Rattle.step_runs.proofs.MadeLemmas.{calls_make_their_steps, calls_stop_at_their_step}
use Rattle.step_runs.proofs.made.calls_make_steps.Goals as goal

pub returns-clause-made : goal.returns-clause-made
returns-clause-made c = calls_make_their_steps

pub returns-clause-stopped : goal.returns-clause-stopped
returns-clause-stopped c = calls_stop_at_their_step
