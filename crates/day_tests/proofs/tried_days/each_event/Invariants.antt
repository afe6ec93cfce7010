use Rattle.at_day.specs.Days.{IsMachineReady}
use Rattle.at_day.specs.Machines.{machine}
use Rattle.day_tests.proofs.tried_days.each_event.Given as goal

-- an event can happen
abbrev pub invariant-loop-number : goal.invariant-loop-number
invariant-loop-number g l = IsMachineReady (machine l.stepped.host l.stepped.daemon)
