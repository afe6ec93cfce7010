use Rattle.mail_session.proofs.DueLemmas.{dues_are_due}
use Rattle.mail_session.proofs.laws.dues_are_due.Goals as goal

pub returns : goal.returns
returns c = λ of notes table due_notices without among are. dues_are_due of notes table without among due_notices are
