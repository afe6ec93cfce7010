-- A day (own): its outcomes, what it reports, and what it leaves.
use Rattle.std.specs.Prelude.{◌≡◌, ◌++◌, List}
use Rattle.daemon_turn.specs.Daemons.{new_daemon}
use Rattle.daemon_turn.specs.Kids.{AreChildren}
use Rattle.at_day.specs.declared.event.Event.{Event}
use Rattle.at_day.specs.declared.events_report.EventReport.{EventReport}
use Rattle.host_calls.specs.Session.{IsOutside}
use Rattle.memory_host.specs.Host.{IsUnchanged}
use Rattle.memory_host.specs.declared.memory_host.MemoryHost.{MemoryHost}
use Rattle.at_day.specs.declared.days.TheConstants.{LIMIT, INTERVAL}
use Rattle.at_day.specs.declared.report.DayReport.{DayReport}
use Rattle.at_day.specs.JobCounts.{IsTableCounted}
use Rattle.at_day.specs.EventOutcomes.{AreDoneOn, EventOutcome, events_of, machine_after, reports_of}
use Rattle.at_day.specs.Machines.{Machine, machine, machine_session}
use Rattle.at_day.specs.Promise.{KeepsPromise}

-- the machine of a day at first: its daemon watches no child
abbrev pub first_machine : MemoryHost → Machine
first_machine host = machine host (new_daemon LIMIT INTERVAL)

-- a machine on which an event can happen: no session is on, and each child that the daemon watches is one of the host
pub record IsMachineReady (at : Machine) : Type 0 where
  pub outside : IsOutside (machine_session at)
  pub children : AreChildren (machine_session at).children at.daemon.kids

-- The events were made to their end: each of them has an outcome, in order, these are their reports, and this is the host
-- that they left.
pub record IsDayOf (events : List Event) (reports : List EventReport) (first : Machine) (left : MemoryHost) : Type 0 where
  pub outcomes : List EventOutcome
  pub done : AreDoneOn first outcomes
  pub events_are : events_of outcomes ≡ events
  pub reports_are : reports_of outcomes ≡ reports
  pub last_is : (machine_after first outcomes).host ≡ left
  pub keeps : KeepsPromise first outcomes

-- Memory ran out on the way: the first of the events have outcomes, the last of these perhaps not reported, and the host
-- is as they left it.
pub record IsDayCut (events : List Event) (first : Machine) (left : MemoryHost) : Type 0 where
  pub outcomes : List EventOutcome
  pub done : AreDoneOn first outcomes
  pub later : List Event
  pub events_are : events_of outcomes ++ later ≡ events
  pub as_left : IsUnchanged (machine_after first outcomes).host left
  pub keeps : KeepsPromise first outcomes

-- What a day reports: the report of each event, and what the directory counts that they leave.
pub record IsDay (events : List Event) (old new : MemoryHost) (report : DayReport) : Type 0 where
  pub between : MemoryHost
  pub day : IsDayOf events report.events (first_machine old) between
  pub counted : IsTableCounted between new report.counts
