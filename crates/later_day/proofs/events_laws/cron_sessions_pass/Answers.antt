use Rattle.later_day.proofs.CronLemmas.{cron_sessions_pass}
use Rattle.later_day.proofs.events_laws.cron_sessions_pass.Goals as goal

pub returns : goal.returns
returns c = cron_sessions_pass
