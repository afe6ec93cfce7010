use Rattle.std.proofs.Common.{◌≡◌, drop}
use Rattle.memory_host.specs.Plan.{part_of}
use Rattle.memory_host.proofs.failing_list.first_part.Given as goal

abbrev pub invariant-loop-failing : goal.invariant-loop-failing
invariant-loop-failing l = part_of (drop l.failing-index l.list) l.call ≡ part_of l.list l.call
