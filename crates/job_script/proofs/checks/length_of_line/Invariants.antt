use Rattle.std.proofs.Common.{◌≡◌, min, ◌+◌, ◌*◌, ◌-◌, ◌^◌, length, take}
use Rattle.std.specs.List.{sum_by}
use Rattle.job_script.specs.Variables.{quoted_byte}
use Rattle.job_script.proofs.checks.length_of_line.Given as goal

abbrev pub invariant-loop-byte : goal.invariant-loop-byte
invariant-loop-byte l =
    l.total ≡ min (sum_by quoted_byte (take l.byte-index l.byte-items) + (2 * length l.name + 13)) (2 ^ 64 - 1)
