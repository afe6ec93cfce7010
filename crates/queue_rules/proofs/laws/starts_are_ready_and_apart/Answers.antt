use Rattle.queue_rules.proofs.StartLemmas.{batch_is_apart, batch_number, due_numbers, due_numbers_differ}
use Rattle.queue_rules.proofs.laws.starts_are_ready_and_apart.Goals as goal

pub returns-clause-jobs : goal.returns-clause-jobs
returns-clause-jobs c = due_numbers c.args.rows.now c.args.now

pub returns-clause-batch : goal.returns-clause-batch
returns-clause-batch c = batch_number c.args.rows.now c.args.now

pub returns-clause-differ : goal.returns-clause-differ
returns-clause-differ c = due_numbers_differ c.args.rows.now c.args.now

pub returns-clause-apart : goal.returns-clause-apart
returns-clause-apart c = batch_is_apart c.args.rows.now c.args.now
