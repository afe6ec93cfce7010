use Rattle.at_mail.proofs.StayingLemmas as staying
use Rattle.at_mail.proofs.trim_laws.trims_change_no_session.Goals as goal

pub returns : goal.returns
returns c = staying.trims_change_no_session
