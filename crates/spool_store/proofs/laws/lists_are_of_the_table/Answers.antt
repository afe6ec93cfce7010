use Rattle.spool_store.proofs.CountLemmas.{decided_counted, decided_listed, rows_counted, rows_listed}
use Rattle.spool_store.proofs.laws.lists_are_of_the_table.Goals as goal

pub returns-clause-rows : goal.returns-clause-rows
returns-clause-rows c table rows lists = (rows_listed table rows lists, rows_counted table rows lists)

pub returns-clause-decided : goal.returns-clause-decided
returns-clause-decided c table decided lists = (decided_listed table decided lists, decided_counted table decided lists)
