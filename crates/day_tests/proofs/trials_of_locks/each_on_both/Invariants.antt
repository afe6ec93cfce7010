use Rattle.at_day.specs.Days.{IsMachineReady}
use Rattle.at_day.specs.Machines.{machine}
use Rattle.day_tests.proofs.trials_of_locks.each_on_both.Given as goal

-- an event can happen on both
abbrev pub invariant-loop-number : goal.invariant-loop-number
invariant-loop-number g l = record {
  one : IsMachineReady (machine l.one.host l.one.daemon);
  other : IsMachineReady (machine l.other.host l.other.daemon);
}
