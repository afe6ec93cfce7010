use Rattle.job_script.proofs.FormLemmas.{lines_before, lines_after, no_lines, only_directory}
use Rattle.job_script.proofs.form.has_lines.Goals as goal

pub loop-more-preserved : goal.loop-more-preserved
loop-more-preserved c = (
  λ lines. c.loop-more.invariant.0 (lines_before c.loop-more.rest.now c.in-Some.more.now c.in-Some.ensures lines),
  λ lines. lines_after c.loop-more.rest.now c.in-Some.more.now c.in-Some.ensures (c.loop-more.invariant.1 lines),
)

pub returns : goal.returns
returns c = (
  λ place. c.loop-more.invariant.0 (no_lines c.loop-more.rest.now (c.has_directory.ensures.0 place)),
  λ lines. c.has_directory.ensures.1 (only_directory c.loop-more.rest.now c.in_default.ensures (c.loop-more.invariant.1 lines)),
)
