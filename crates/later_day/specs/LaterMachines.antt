-- A machine on which mail is sent too, and a crontab kept, at one moment (own).
use Rattle.std.specs.Prelude.{ℕ, List}
use Rattle.cron_session.specs.SessionOutcome.{CronAt}
use Rattle.daemon_turn.specs.Daemons.{DaemonState}
use Rattle.host_calls.specs.World.{World}
use Rattle.mail_session.specs.SessionOutcome.{PostSpool}
use Rattle.mail_session.specs.PostState.{PostState, new_post}
use Rattle.memory_host.specs.declared.memory_host.MemoryHost.{MemoryHost}
use Rattle.at_day.specs.Days.{first_machine}
use Rattle.at_day.specs.Machines.{Machine, machine, machine_session, spool_of}

-- the machine of a day, and what the post that works on it keeps
pub record LaterMachine : Type 0 where
  pub at : Machine
  pub post : PostState

abbrev pub later_machine : MemoryHost → DaemonState → PostState → LaterMachine
later_machine host daemon post = record { at = machine host daemon; post = post }

-- the moments of its spool directory
abbrev pub later_spool : LaterMachine → World
later_spool old = spool_of old.at

-- the post and its host, as a session of mail sees them
abbrev pub post_at : LaterMachine → PostSpool
post_at old = record { session = machine_session old.at; world = spool_of old.at; post = old.post }

-- the host, as a session of a crontab sees it
abbrev pub cron_at : LaterMachine → CronAt
cron_at old = record { session = machine_session old.at; world = spool_of old.at }

-- the machine at first: its daemon watches no child, and its post, which has this mail program, has no child
abbrev pub first_later_machine : MemoryHost → List ℕ → LaterMachine
first_later_machine host program = record { at = first_machine host; post = new_post program }
