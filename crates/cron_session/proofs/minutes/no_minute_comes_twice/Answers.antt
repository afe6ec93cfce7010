use Rattle.cron_session.proofs.CutLemmas.{cut_sessions_pass}
use Rattle.cron_session.proofs.MinuteLemmas.{no_minute_comes_twice}
use Rattle.cron_session.proofs.minutes.no_minute_comes_twice.Goals as goal

pub returns-clause-twice : goal.returns-clause-twice
returns-clause-twice c = no_minute_comes_twice

pub returns-clause-cut : goal.returns-clause-cut
returns-clause-cut c = cut_sessions_pass
