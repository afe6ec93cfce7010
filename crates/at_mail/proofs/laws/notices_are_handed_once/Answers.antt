use Rattle.at_mail.proofs.OnceLemmas.{notices_are_handed_once}
use Rattle.at_mail.proofs.laws.notices_are_handed_once.Goals as goal

pub returns : goal.returns
returns c = notices_are_handed_once
