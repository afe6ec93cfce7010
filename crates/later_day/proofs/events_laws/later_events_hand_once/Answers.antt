use Rattle.later_day.proofs.LaterLemmas.{later_events_hand_once}
use Rattle.later_day.proofs.NoticeLemmas.{sessions_go_beside}
use Rattle.later_day.proofs.events_laws.later_events_hand_once.Goals as goal

pub returns-clause-events : goal.returns-clause-events
returns-clause-events c = later_events_hand_once

pub returns-clause-sessions : goal.returns-clause-sessions
returns-clause-sessions c = sessions_go_beside
