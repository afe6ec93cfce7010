use Rattle.spool_model.proofs.StepLemmas as law
use Rattle.spool_model.proofs.laws.steps_keep_the_table_sound.Goals as goal

pub returns : goal.returns
returns c = law.steps_keep_the_table_sound
