-- A machine at one moment (own).
use Rattle.daemon_turn.specs.Daemons.{DaemonState}
use Rattle.daemon_turn.specs.TurnOutcome.{DaemonAt}
use Rattle.host_calls.specs.Session.{Session}
use Rattle.host_calls.specs.World.{World}
use Rattle.memory_host.specs.Host.{memory_session, memory_world}
use Rattle.memory_host.specs.declared.memory_host.MemoryHost.{MemoryHost}

-- its host, and what the daemon that works on it keeps
pub record Machine : Type 0 where
  pub host : MemoryHost
  pub daemon : DaemonState

abbrev pub machine : MemoryHost → DaemonState → Machine
machine host daemon = record { host = host; daemon = daemon }

-- what its host tells as every host does
abbrev pub machine_session : Machine → Session
machine_session at = memory_session at.host

-- the moments of its spool directory
abbrev pub spool_of : Machine → World
spool_of at = memory_world at.host

-- the daemon and its host, as a turn sees them
abbrev pub daemon_at : Machine → DaemonAt
daemon_at at = record { session = memory_session at.host; world = memory_world at.host; daemon = at.daemon }
