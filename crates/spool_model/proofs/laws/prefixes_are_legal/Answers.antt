use Rattle.spool_model.proofs.StepLemmas as law
use Rattle.spool_model.proofs.laws.prefixes_are_legal.Goals as goal

pub returns : goal.returns
returns c = law.prefixes_are_legal
