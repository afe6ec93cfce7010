use Rattle.std.proofs.Common.{sym, ap}
use Rattle.mail_session.specs.Steps.{due_of_entry}
use Rattle.mail_session.proofs.due_notices.due_of_entry.Goals as goal

pub returns-in-Some : goal.returns-in-Some
returns-in-Some c = sym (ap (due_of_entry c.args.job.now) c.in-Some.ensures.found.held)

pub returns-in-None : goal.returns-in-None
returns-in-None c = c.due_after.ensures c.args.store.now.table c.decided.ensures c.in-None.ensures.absent
