use Rattle.spool_model.proofs.StepLemmas as law
use Rattle.spool_model.proofs.laws.numbers_are_accepted_once.Goals as goal

pub returns : goal.returns
returns c = record { once = law.numbers_are_accepted_once; new = law.old_numbers_are_not_accepted }
