use Rattle.later_day.proofs.RestLemmas.{beside_the_store_pass}
use Rattle.later_day.proofs.events_laws.beside_the_store_pass.Goals as goal

pub returns : goal.returns
returns c = beside_the_store_pass
