use Rattle.std.proofs.Common.{sym, ◌∙◌}
use Rattle.queue_rules.proofs.LineLemmas.{batch_more, job_more, on_ok}
use Rattle.queue_rules.proofs.lines.Lines.add.Goals as goal

pub returns-then-is_waiting_batch-clause-added : goal.returns-then-is_waiting_batch-clause-added
returns-then-is_waiting_batch-clause-added c =
    on_ok c.add.result c.add.ensures.added (λ added rows.
    batch_more rows c.args.row.now c.args.self.now c.of.result c.add.new.self (sym c.is_waiting_batch.ensures ∙ c.if-is_waiting_batch.true)
    c.of.ensures added c.add.ensures.in_line)

pub returns-then-is_waiting_job-clause-added : goal.returns-then-is_waiting_job-clause-added
returns-then-is_waiting_job-clause-added c =
    on_ok c.add-then-is_waiting_job.result c.add-then-is_waiting_job.ensures.added (λ added rows.
    job_more rows c.args.row.now c.args.self.now c.of-then-is_waiting_job.result c.add-then-is_waiting_job.new.self
    (sym c.is_waiting_job.ensures ∙ c.if-is_waiting_job.true) c.of-then-is_waiting_job.ensures added
    c.add-then-is_waiting_job.ensures.in_line)
