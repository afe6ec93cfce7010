use Rattle.std.proofs.Common.{◌≡◌, ◌++◌, take}
use Rattle.job_script.specs.Variables.{kept}
use Rattle.job_script.specs.JobText.{variable_lines}
use Rattle.job_script.proofs.writer.put_variables.Given as goal

abbrev pub invariant-loop-name : goal.invariant-loop-name
invariant-loop-name l =
    l.text.items ≡ l.fn.text.items ++ variable_lines (kept (take l.name-index l.variables))
