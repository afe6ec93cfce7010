use Rattle.spool_store.proofs.BesideLemmas.{clearings_beside_show_the_same, placings_beside_show_the_same}
use Rattle.spool_store.proofs.laws.changes_beside_show_the_same.Goals as goal

pub returns-clause-placings : goal.returns-clause-placings
returns-clause-placings c = placings_beside_show_the_same

pub returns-clause-clearings : goal.returns-clause-clearings
returns-clause-clearings c = clearings_beside_show_the_same
