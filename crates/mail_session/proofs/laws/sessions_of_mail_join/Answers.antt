use Rattle.mail_session.proofs.SessionLemmas.{leftovers_are_cleared, recoveries_open, sessions_post, stopped_sessions_post}
use Rattle.mail_session.proofs.laws.sessions_of_mail_join.Goals as goal

pub returns-clause-opened : goal.returns-clause-opened
returns-clause-opened c = recoveries_open

pub returns-clause-cleared : goal.returns-clause-cleared
returns-clause-cleared c = leftovers_are_cleared

pub returns-clause-posted : goal.returns-clause-posted
returns-clause-posted c = sessions_post

pub returns-clause-stopped : goal.returns-clause-stopped
returns-clause-stopped c = stopped_sessions_post
