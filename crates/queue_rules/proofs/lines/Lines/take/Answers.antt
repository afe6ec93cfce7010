use Rattle.std.proofs.Common.{sym, ◌∙◌}
use Rattle.queue_rules.proofs.LineLemmas.{batch_less, in_batch, in_jobs, job_less}
use Rattle.queue_rules.proofs.lines.Lines.take.Goals as goal

pub take-requires : goal.take-requires
take-requires c = in_batch c.args.row.now c.args.self.now c.of.result (sym c.is_waiting_batch.ensures
    ∙ c.if-is_waiting_batch.true) c.of.ensures c.requires

pub take-requires-then-is_waiting_job : goal.take-requires-then-is_waiting_job
take-requires-then-is_waiting_job c =
    in_jobs c.args.row.now c.args.self.now c.of-then-is_waiting_job.result (sym c.is_waiting_job.ensures ∙ c.if-is_waiting_job.true)
    c.of-then-is_waiting_job.ensures c.requires

pub returns-then-is_waiting_batch : goal.returns-then-is_waiting_batch
returns-then-is_waiting_batch c prefix suffix =
    batch_less prefix suffix c.args.row.now c.args.self.now c.of.result c.take.new.self (sym c.is_waiting_batch.ensures
    ∙ c.if-is_waiting_batch.true) c.of.ensures c.take.ensures.taken c.take.ensures.in_line

pub returns-then-is_waiting_job : goal.returns-then-is_waiting_job
returns-then-is_waiting_job c prefix suffix =
    job_less prefix suffix c.args.row.now c.args.self.now c.of-then-is_waiting_job.result c.take-then-is_waiting_job.new.self
    (sym c.is_waiting_job.ensures ∙ c.if-is_waiting_job.true) c.of-then-is_waiting_job.ensures c.take-then-is_waiting_job.ensures.taken
    c.take-then-is_waiting_job.ensures.in_line
