use Rattle.std.proofs.Common.{◌≡◌, ◌++◌, ◌∷◌, take}
use Rattle.std.specs.List.{flat_map}
use Rattle.job_script.specs.JobText.{quoted_part}
use Rattle.job_script.proofs.writer.put_quoted.Given as goal

abbrev pub invariant-loop-byte : goal.invariant-loop-byte
invariant-loop-byte l =
    l.text.items ≡ l.fn.text.items ++ (39 ∷ flat_map quoted_part (take l.byte-index l.value))
