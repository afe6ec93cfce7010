use Rattle.step_runs.proofs.WithoutScriptsLemmas.{entries_are_without_scripts, legal_as_on_the_table, lists_legal_as_on_the_table, lists_step_as_on_the_table, scripts_are_gone, steps_as_on_the_table}
use Rattle.step_runs.proofs.ListLemmas.{lists_as_on_the_table}
use Rattle.step_runs.proofs.laws.tables_without_scripts_step_alike.Goals as goal

pub returns-clause-entries : goal.returns-clause-entries
returns-clause-entries c = entries_are_without_scripts

pub returns-clause-scripts : goal.returns-clause-scripts
returns-clause-scripts c = scripts_are_gone

pub returns-clause-legal : goal.returns-clause-legal
returns-clause-legal c = legal_as_on_the_table

pub returns-clause-steps : goal.returns-clause-steps
returns-clause-steps c = steps_as_on_the_table

pub returns-clause-legal_lists : goal.returns-clause-legal_lists
returns-clause-legal_lists c = lists_legal_as_on_the_table

pub returns-clause-step_lists : goal.returns-clause-step_lists
returns-clause-step_lists c = lists_step_as_on_the_table

pub returns-clause-lists : goal.returns-clause-lists
returns-clause-lists c = lists_as_on_the_table
