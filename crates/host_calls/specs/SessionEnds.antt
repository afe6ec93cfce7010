-- The end of a session that recovers and works, by what came of it (own).
use Rattle.std.specs.Prelude.{Result, Ok, Err}
use Rattle.host_calls.specs.declared.fault.EnterFault.{EnterFault}
use Rattle.host_calls.specs.declared.fault.EnterFault.TheVariants as entry
use Rattle.host_calls.specs.declared.store_fault.StoreFault.{StoreFault}
use Rattle.host_calls.specs.declared.store_fault.StoreFault.TheVariants as fault
use Rattle.host_calls.specs.declared.turn_end.TurnEnd.{TurnEnd}
use Rattle.host_calls.specs.declared.turn_end.TurnEnd.TheVariants.{Done, Busy, FileFault, Damaged, Memory}

-- by a fault; the last two come of no reading
abbrev pub end_by : StoreFault → TurnEnd
end_by fault.FileFault = FileFault
end_by (fault.Damaged damage) = Damaged damage
end_by fault.Memory = Memory
end_by fault.QueueFull = Memory
end_by fault.NumbersUsedUp = Memory

-- by what came of its work
abbrev pub end_after : Result (Unit {0}) StoreFault → TurnEnd
end_after (Ok done) = Done
end_after (Err fault) = end_by fault

-- by what came of the session
abbrev pub end_of_session : Result (Result (Unit {0}) StoreFault) EnterFault → TurnEnd
end_of_session (Ok worked) = end_after worked
end_of_session (Err entry.Taken) = Busy
end_of_session (Err entry.Failed) = FileFault
end_of_session (Err entry.Memory) = Memory
