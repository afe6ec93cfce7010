use Rattle.at_day.proofs.AcknowledgedLemmas as law
use Rattle.at_day.proofs.laws.acknowledged_events_are_whole.Goals as goal

pub returns : goal.returns
returns c = law.acknowledged_events_are_whole
