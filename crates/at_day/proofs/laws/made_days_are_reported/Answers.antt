use Rattle.at_day.proofs.ProgramLemmas as law
use Rattle.at_day.proofs.laws.made_days_are_reported.Goals as goal

pub returns : goal.returns
returns c = law.made_days_are_reported
