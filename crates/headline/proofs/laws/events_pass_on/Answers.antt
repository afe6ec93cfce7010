use Rattle.headline.proofs.StateLemmas.{events_pass_on, later_events_leave, still_worlds_are_unbegun}
use Rattle.headline.proofs.laws.events_pass_on.Goals as goal

pub returns-clause-pass : goal.returns-clause-pass
returns-clause-pass c = events_pass_on

pub returns-clause-left : goal.returns-clause-left
returns-clause-left c = later_events_leave

pub returns-clause-still : goal.returns-clause-still
returns-clause-still c = still_worlds_are_unbegun
