use Rattle.spool_model.proofs.StepLemmas as law
use Rattle.spool_model.proofs.laws.last_never_falls.Goals as goal

pub returns : goal.returns
returns c = law.last_never_falls
