use Rattle.spool_model.proofs.StepLemmas.{new_is_sound}
use Rattle.spool_model.proofs.table.Table.new.Goals as goal

pub invariant_of-result : goal.invariant_of-result
invariant_of-result c = new_is_sound c.new.result c.new.ensures
