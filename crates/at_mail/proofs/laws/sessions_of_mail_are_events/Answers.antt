use Rattle.at_mail.proofs.EventLemmas.{notings_are_events, programs_are_events, sessions_are_events}
use Rattle.at_mail.proofs.laws.sessions_of_mail_are_events.Goals as goal

pub returns-clause-sessions : goal.returns-clause-sessions
returns-clause-sessions c = sessions_are_events

pub returns-clause-programs : goal.returns-clause-programs
returns-clause-programs c = programs_are_events

pub returns-clause-notings : goal.returns-clause-notings
returns-clause-notings c = notings_are_events
