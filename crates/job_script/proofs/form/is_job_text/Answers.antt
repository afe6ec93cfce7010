use Rattle.std.proofs.Common.{◌+◌, List, ℕ, length, drop, ap, ◌∙◌}
use Rattle.job_script.proofs.JobLemmas.{job_has_header, job_has_lines, job_has_umask, lines_make_job, lines_of}
use Rattle.job_script.proofs.form.is_job_text.Goals as goal

pub returns-in_default : goal.returns-in_default
returns-in_default c = (
  λ holds. absurd (cc holds),
  λ job. absurd (c.in_default.ensures.read (job_has_header c.args.bytes.now job)),
)

pub returns-in-Some-after_umask : goal.returns-in-Some-after_umask
returns-in-Some-after_umask c =
    let back = c.split_at.ensures.back ∙ ap (λ (it : List ℕ). drop (28 + length it) c.args.bytes.now) c.as_bytes.ensures.bytes in (
      λ holds. lines_make_job c.args.bytes.now c.split_at.result.1.now c.in-Some-after_umask.lines.now c.in-Some.found.user
          c.in-Some.found.mail c.in-Some.ensures.read back c.in-Some-after_umask.ensures (c.has_lines.ensures.0 holds),
      λ job. c.has_lines.ensures.1 (job_has_lines c.args.bytes.now c.split_at.result.1.now c.in-Some-after_umask.lines.now
          c.in-Some.found.user c.in-Some.found.mail c.in-Some.ensures.read back c.in-Some-after_umask.ensures job),
    )

pub returns-in-None : goal.returns-in-None
returns-in-None c =
    let back = c.split_at.ensures.back ∙ ap (λ (it : List ℕ). drop (28 + length it) c.args.bytes.now) c.as_bytes.ensures.bytes in (
      λ holds. absurd (cc holds),
      λ job. absurd (c.in-None.ensures (lines_of job.job)
          (job_has_umask c.args.bytes.now c.split_at.result.1.now c.in-Some.found.user c.in-Some.found.mail
          c.in-Some.ensures.read back job)),
    )
