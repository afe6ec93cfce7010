use Rattle.later_day.proofs.MailLemmas.{mail_sessions_pass}
use Rattle.later_day.proofs.events_laws.mail_sessions_pass.Goals as goal

pub returns : goal.returns
returns c = mail_sessions_pass
