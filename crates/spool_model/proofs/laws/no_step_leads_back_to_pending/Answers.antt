use Rattle.spool_model.proofs.StepLemmas as law
use Rattle.spool_model.proofs.laws.no_step_leads_back_to_pending.Goals as goal

pub returns : goal.returns
returns c = law.no_step_leads_back_to_pending
