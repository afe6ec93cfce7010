use Rattle.cron_session.proofs.CronMarkLemmas.{digits_start, no_digits_start}
use Rattle.cron_session.proofs.mark_text.start_digits.Goals as goal

pub returns-in-Some : goal.returns-in-Some
returns-in-Some c = digits_start c.args.bytes.now c.in-Some.number c.in-Some.ensures.number c.requires

pub returns-in-None : goal.returns-in-None
returns-in-None c = no_digits_start c.args.bytes.now c.in-None.ensures.none c.requires
