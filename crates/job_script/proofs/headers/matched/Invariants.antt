use Rattle.std.proofs.Common.{◌≡◌, ◌<◌, ◌≤◌, ℕ, length, get_or}
use Rattle.job_script.proofs.headers.matched.Given as goal

abbrev pub invariant-loop-i : goal.invariant-loop-i
invariant-loop-i l = record {
  within : l.i ≤ length l.bytes;
  same : (k : ℕ) → k < l.i → get_or l.bytes k 0 ≡ get_or l.text k 0;
}
