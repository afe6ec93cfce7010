use Rattle.std.proofs.Common.{◌↔◌, length}
use Rattle.job_script.specs.inside.Prefixes.{HasLines}
use Rattle.job_script.proofs.form.has_lines.Given as goal

abbrev pub invariant-loop-more : goal.invariant-loop-more
invariant-loop-more l = HasLines l.rest ↔ HasLines l.bytes

abbrev pub decreases-loop-more : goal.decreases-loop-more
decreases-loop-more l = length l.rest
