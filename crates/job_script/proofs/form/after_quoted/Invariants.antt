use Rattle.std.proofs.Common.{length}
use Rattle.job_script.proofs.PrefixLemmas.{IsOpen}
use Rattle.job_script.proofs.form.after_quoted.Given as goal

abbrev pub invariant-loop-more : goal.invariant-loop-more
invariant-loop-more l = IsOpen l.bytes l.rest

abbrev pub decreases-loop-more : goal.decreases-loop-more
decreases-loop-more l = length l.rest
