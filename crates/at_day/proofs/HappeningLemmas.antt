-- What a command does that is not reported, on a machine whose daemon keeps still.
use Rattle.std.proofs.Common.{◌≡◌, ℕ, ℤ, List, refl, inl, inr, subst}
use Rattle.std.specs.Prelude.{Result, Ok, Err, OnErr}
use Rattle.std.specs.declared.alloc.AllocError.{AllocError}
use Rattle.tool_output.specs.declared.caller.Caller.{Caller}
use Rattle.daemon_turn.specs.Daemons.{DaemonState}
use Rattle.at_day.specs.declared.event.Event.TheVariants.{Command}
use Rattle.at_day.specs.declared.events_report.EventReport.{EventReport}
use Rattle.at_day.specs.declared.events_report.EventReport.TheVariants as known
use Rattle.memory_host.specs.declared.memory_host.MemoryHost.{MemoryHost}
use Rattle.at_day.specs.GivenCommand.{IsGivenUnreported}
use Rattle.at_day.specs.EventEffects.{IsUnreported}
use Rattle.at_day.specs.Machines.{machine}

unreported_as : (words : List (List ℕ)) (caller : Caller) (input : List ℕ) (now : ℤ) (old new : MemoryHost) (daemon : DaemonState) →
    IsGivenUnreported words caller input now old new →
    IsUnreported (Command words caller input now) (machine old daemon) (machine new daemon)
unreported_as words caller input now old new daemon (inl same) = inl (record { host = same; daemon = refl })
unreported_as words caller input now old new daemon (inr given) =
    inr (known.Command given.0 given.1 given.2, record { host = given.3; daemon = refl })

pub command_unreported : (words : List (List ℕ)) (caller : Caller) (input : List ℕ) (stood now : ℤ) (old new : MemoryHost)
    (daemon : DaemonState) (result : Result EventReport AllocError) → stood ≡ now →
    OnErr result (IsGivenUnreported words caller input stood old new) →
    OnErr result (IsUnreported (Command words caller input now) (machine old daemon) (machine new daemon))
command_unreported words caller input stood now old new daemon (Ok report) same given = tt
command_unreported words caller input stood now old new daemon (Err wanting) same given =
    unreported_as words caller input now old new daemon (subst (λ (at : ℤ). IsGivenUnreported words caller input at old new) same given)
