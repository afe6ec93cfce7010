use Rattle.later_day.proofs.OutcomeLemmas.{day_outcomes_pass}
use Rattle.later_day.proofs.laws.day_outcomes_pass.Goals as goal

pub returns : goal.returns
returns c = day_outcomes_pass
