use Rattle.later_day.proofs.StayOverLemmas as law
use Rattle.later_day.proofs.events_laws.jobs_stay_over.Goals as goal

pub returns : goal.returns
returns c = law.jobs_stay_over
