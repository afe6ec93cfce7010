use Rattle.spool_store.proofs.BesideLemmas.{stores_stay_current_after_clearings, stores_stay_current_after_placings}
use Rattle.spool_store.proofs.laws.stores_stay_current_beside.Goals as goal

pub returns-clause-placings : goal.returns-clause-placings
returns-clause-placings c = stores_stay_current_after_placings

pub returns-clause-clearings : goal.returns-clause-clearings
returns-clause-clearings c = stores_stay_current_after_clearings
