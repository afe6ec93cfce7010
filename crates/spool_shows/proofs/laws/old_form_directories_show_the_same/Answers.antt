use Rattle.spool_shows.proofs.OldFormLemmas.{old_form_directories_show_the_same as law, old_form_tables_are_shown}
use Rattle.spool_shows.proofs.laws.old_form_directories_show_the_same.Goals as goal

pub returns-clause-tables : goal.returns-clause-tables
returns-clause-tables c = old_form_tables_are_shown

pub returns-clause-damages : goal.returns-clause-damages
returns-clause-damages c = law
