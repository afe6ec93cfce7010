use Rattle.queue_rules.specs.Dues.{is_waiting_batch}
use Rattle.queue_rules.proofs.RowLemmas.{line_of_rows}
use Rattle.queue_rules.proofs.line.DueLine.of_batch.Goals as goal

pub returns : goal.returns
returns c = line_of_rows is_waiting_batch c.args.rows.now _ _ c.in_ok-waiting_batch.ensures c.sorted.ensures.same c.sorted.ensures.in_line
