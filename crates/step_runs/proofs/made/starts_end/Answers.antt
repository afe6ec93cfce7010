use Rattle.step_runs.proofs.StartedLemmas.{starts_end}
use Rattle.step_runs.proofs.made.starts_end.Goals as goal

pub returns : goal.returns
returns c = starts_end
