use Rattle.spool_faults.proofs.StartsKept.{starts_are_not_pending as law}
use Rattle.spool_faults.proofs.laws.starts_are_not_pending.Goals as goal

pub returns : goal.returns
returns c = law
