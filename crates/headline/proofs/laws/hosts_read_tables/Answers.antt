use Rattle.headline.proofs.StateLemmas.{settled_directories_show_their_table, hosts_read_tables}
use Rattle.headline.proofs.laws.hosts_read_tables.Goals as goal

pub returns-clause-tables : goal.returns-clause-tables
returns-clause-tables c = hosts_read_tables

pub returns-clause-settled : goal.returns-clause-settled
returns-clause-settled c = settled_directories_show_their_table

pub returns-clause-achieved : goal.returns-clause-achieved
returns-clause-achieved c = λ table steps old new moved. moved.1.whole
