use Rattle.std.proofs.Common.{◌∙◌, ap}
use Rattle.std.specs.Prelude.{Some}
use Rattle.mail_session.proofs.DueLemmas.{due_done, due_forgotten}
use Rattle.mail_session.proofs.due_notices.due_after.Goals as goal

pub returns-in-Some : goal.returns-in-Some
returns-in-Some c table lists not_live =
    let found = c.in-Some.ensures.some in
    ap Some c.due_by.ensures ∙ due_done table c.args.decided.now c.args.job.now c.in-Some.fate lists found.0 found.1 found.2 found.3

pub returns-in-None : goal.returns-in-None
returns-in-None c table lists not_live = due_forgotten table c.args.decided.now c.args.job.now lists not_live c.in-None.ensures.none
