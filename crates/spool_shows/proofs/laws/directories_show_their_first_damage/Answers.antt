use Rattle.spool_shows.proofs.FirstDamages.{directories_show_their_first_damage, undamaged_directories_show_tables}
use Rattle.spool_shows.proofs.laws.directories_show_their_first_damage.Goals as goal

pub returns-clause-damage : goal.returns-clause-damage
returns-clause-damage c = directories_show_their_first_damage

pub returns-clause-table : goal.returns-clause-table
returns-clause-table c = undamaged_directories_show_tables
