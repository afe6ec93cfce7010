use Rattle.queue_rules.specs.Order.{is_ready_batch}
use Rattle.queue_rules.proofs.LineLemmas.{head_is_first, line_is_due_order, no_places}
use Rattle.queue_rules.proofs.due_laws.prefixes_are_the_due_order.Goals as goal

pub returns-clause-jobs : goal.returns-clause-jobs
returns-clause-jobs c = line_is_due_order

pub returns-clause-batch : goal.returns-clause-batch
returns-clause-batch c = head_is_first

pub returns-clause-none : goal.returns-clause-none
returns-clause-none c = λ rows now. no_places (is_ready_batch now) rows
