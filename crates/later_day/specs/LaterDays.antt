-- A day on which mail is sent too, and a crontab kept (own): its outcomes, what it reports, and what it leaves.
use Rattle.std.specs.Prelude.{◌≡◌, ◌++◌, List}
use Rattle.memory_host.specs.Host.{IsUnchanged}
use Rattle.memory_host.specs.declared.memory_host.MemoryHost.{MemoryHost}
use Rattle.later_day.specs.declared.entry.LaterEntry.{LaterEntry}
use Rattle.later_day.specs.declared.later.Later.{Later}
use Rattle.later_day.specs.LaterMachines.{LaterMachine}
use Rattle.later_day.specs.LaterOutcomes.{AreLaterDoneOn, LaterOutcome, entries_of, later_events_of, later_machine_after}
use Rattle.later_day.specs.LaterPromise.{KeepsLaterPromise}

-- The events were made to their end: each of them has an outcome, in order, these are their entries, and this is the host
-- that they left.
pub record IsLaterDay (events : List Later) (entries : List LaterEntry) (first : LaterMachine) (left : MemoryHost) : Type 0 where
  pub outcomes : List LaterOutcome
  pub done : AreLaterDoneOn first outcomes
  pub events_are : later_events_of outcomes ≡ events
  pub entries_are : entries_of outcomes ≡ entries
  pub last_is : (later_machine_after first outcomes).at.host ≡ left
  pub keeps : KeepsLaterPromise first outcomes

-- Memory ran out on the way: the first of the events have outcomes, the last of these perhaps not reported, and the host
-- is as they left it.
pub record IsLaterDayCut (events : List Later) (first : LaterMachine) (left : MemoryHost) : Type 0 where
  pub outcomes : List LaterOutcome
  pub done : AreLaterDoneOn first outcomes
  pub later : List Later
  pub events_are : later_events_of outcomes ++ later ≡ events
  pub as_left : IsUnchanged (later_machine_after first outcomes).at.host left
  pub keeps : KeepsLaterPromise first outcomes
