-- What happens on a machine with an event, and what it reports (own).
use Rattle.std.specs.Prelude.{◌≡◌, ◌⊎◌, ℕ, ℤ, true, List, Option}
use Rattle.tool_output.specs.declared.caller.Caller.{Caller}
use Rattle.daemon_turn.specs.declared.mode.Mode.TheVariants.{Full}
use Rattle.daemon_turn.specs.declared.turn_input.TurnInput.{TurnInput}
use Rattle.daemon_turn.specs.declared.report.TurnReport.{TurnReport}
use Rattle.daemon_turn.specs.Daemons.{new_daemon}
use Rattle.daemon_turn.specs.TurnOutcome.{TurnsTo}
use Rattle.at_day.specs.declared.event.Event.{Event}
use Rattle.at_day.specs.declared.event.Event.TheVariants.{Command, Turn, Reboot}
use Rattle.at_day.specs.declared.events_report.EventReport.{EventReport}
use Rattle.at_day.specs.declared.events_report.EventReport.TheVariants as known
use Rattle.listing_text.specs.declared.status.Status.{Status}
use Rattle.memory_host.specs.Host.{IsRebooted, IsUnchanged}
use Rattle.at_day.specs.GivenCommand.{IsGiven}
use Rattle.at_day.specs.Machines.{Machine, daemon_at}

-- when a full turn is made
abbrev pub full_turn : ℤ → Option ℕ → TurnInput
full_turn now load = record { now = now; load = load; mode = Full }

-- The daemon made a full turn, with the children that it had.
abbrev pub IsTurned : ℤ → Option ℕ → TurnReport → Machine → Machine → Type 0
IsTurned now load turned old new =
    TurnsTo true true (full_turn now load) (daemon_at old) (daemon_at new) turned.end turned.steps

-- The machine came up again with an image of the moment before, and the daemon was made anew.
pub record HasRestarted (pick : ℕ) (fuse : Option ℕ) (old new : Machine) : Type 0 where
  pub host : IsRebooted pick fuse old.host new.host
  pub daemon : new.daemon ≡ new_daemon old.daemon.limit old.daemon.interval

-- The command was given, and the daemon is as it was.
pub record IsCommanded (words : List (List ℕ)) (caller : Caller) (input : List ℕ) (now : ℤ) (status : Status) (out err : List ℕ)
    (old new : Machine) : Type 0 where
  pub host : IsGiven words caller input now status out err old.host new.host
  pub daemon : new.daemon ≡ old.daemon

-- the event happened, and this is its report
abbrev pub Happens : Event → EventReport → Machine → Machine → Type 0
Happens (Command words caller input now) (known.Command status out err) old new =
    IsCommanded words caller input now status out err old new
Happens (Turn now load) (known.Turn turned) old new = IsTurned now load turned old new
Happens (Reboot pick fuse) known.Rebooted old new = HasRestarted pick fuse old new
Happens _ _ old new = ⊥

-- nothing of the machine has changed
pub record IsAsItWas (old new : Machine) : Type 0 where
  pub host : IsUnchanged old.host new.host
  pub daemon : new.daemon ≡ old.daemon

-- Memory ran out for the event or its report: the machine is as it was, or as the event left it.
abbrev pub IsUnreported : Event → Machine → Machine → Type 0
IsUnreported event old new = IsAsItWas old new ⊎ ((report : EventReport) × Happens event report old new)
