use Rattle.queue_rules.specs.Dues.{is_waiting_job}
use Rattle.queue_rules.proofs.RowLemmas.{line_of_rows}
use Rattle.queue_rules.proofs.line.DueLine.of_jobs.Goals as goal

pub returns : goal.returns
returns c = line_of_rows is_waiting_job c.args.rows.now _ _ c.in_ok-waiting_jobs.ensures c.sorted.ensures.same c.sorted.ensures.in_line
