use Rattle.step_runs.proofs.MadeLemmas.{questions_make_no_step}
use Rattle.step_runs.proofs.made.questions_make_no_step.Goals as goal

pub returns : goal.returns
returns c = questions_make_no_step
