-- The two lines of the rows that wait (own).
use Rattle.std.specs.Prelude.{List}
use Rattle.spool_model.specs.declared.row.Row.{Row}
use Rattle.queue_rules.specs.declared.lines.Lines.{Lines}
use Rattle.queue_rules.specs.Dues.{IsLineOf, is_waiting_batch, is_waiting_job}

-- the lines of the rows that wait: those outside the batch queues, and those in them
pub record AreLinesOf (rows : List Row) (lines : Lines) : Type 0 where
  pub jobs : IsLineOf is_waiting_job rows lines.jobs
  pub batch : IsLineOf is_waiting_batch rows lines.batch
