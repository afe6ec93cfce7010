use Rattle.std.proofs.Common.{ap, not, sym}
use Rattle.at_mail.proofs.KeptLemmas.{open_none}
use Rattle.at_mail.proofs.trim_kept.is_open.Goals as goal

pub returns-in-None : goal.returns-in-None
returns-in-None c = λ notes of. sym (ap not (open_none notes c.args.number (c.in-None.ensures notes of)))
