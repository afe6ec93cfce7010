use Rattle.std.proofs.Common.{◌<◌, ◌≤◌, ℕ, get_or, IsTrue}
use Rattle.spool_model.specs.Users.{is_user_byte}
use Rattle.job_script.proofs.headers.user_length.Given as goal

abbrev pub invariant-loop-i : goal.invariant-loop-i
invariant-loop-i l = record {
  few : l.i ≤ 32;
  each : (k : ℕ) → k < l.i → IsTrue (is_user_byte (get_or l.bytes k 0));
}
