use Rattle.std.proofs.Common.{◌<◌, ℕ, get_or, IsTrue}
use Rattle.job_script.specs.Variables.{is_variable_byte}
use Rattle.job_script.proofs.form.name_length.Given as goal

abbrev pub invariant-loop-i : goal.invariant-loop-i
invariant-loop-i l = (k : ℕ) → k < l.i → IsTrue (is_variable_byte (get_or l.bytes k 0))
