use Rattle.std.proofs.Common.{◌≡◌, min, ◌-◌, ◌^◌, take}
use Rattle.job_script.specs.Variables.{lines_length}
use Rattle.job_script.proofs.checks.length_of_lines.Given as goal

abbrev pub invariant-loop-name : goal.invariant-loop-name
invariant-loop-name l = l.total ≡ min (lines_length (take l.name-index l.name-items)) (2 ^ 64 - 1)
