-- How one more session goes, by its parts (own).
use Rattle.std.specs.Prelude.{◌≡◌, ◌≤◌, ℕ, Bool, true, false, List, Option, Some, None, Result, Ok, Err, IsErrOf, length}
use Rattle.cron_session.specs.SessionOutcome.{CronAt}
use Rattle.tool_output.specs.Outside.{Telling, WorkAt}
use Rattle.host_calls.specs.Causes.{Rose}
use Rattle.host_calls.specs.declared.fault.SinkFault.{SinkFault}
use Rattle.host_calls.specs.declared.fault.SinkFault.TheVariants as sink
use Rattle.listing_text.specs.declared.cause.Cause.{Cause}
use Rattle.listing_text.specs.declared.cause.Cause.TheVariants as cause
use Rattle.tool_output.specs.declared.caller.Caller.{Caller}
use Rattle.tool_output.specs.Sinks.{IsCut, IsPut, IsSilent, SinkAt}
use Rattle.host_calls.specs.declared.damage.Damage.{Damage}
use Rattle.cron_session.specs.declared.report.CronEnd.{CronEnd}
use Rattle.cron_session.specs.declared.report.CronEnd.TheVariants.{Done, Busy, FileFault, Damaged, QueueFull, NumbersUsedUp, Memory}
use Rattle.cron_turn.specs.Items.{EndsSaying, GoesOnSaying, CronItem, rest_after_session}
use Rattle.cron_turn.specs.CronRuns.{MakesCronSessions}
use Rattle.cron_turn.specs.Sessions.{IsSessionMade, Stops}

-- what was said of a session, by whether a further one may come
abbrev pub SaysSession : Bool → CronEnd → SinkAt → SinkAt → Option Cause → Type 0
SaysSession tells end old new None = GoesOnSaying tells end old new
SaysSession tells end old new (Some cause) = EndsSaying tells end old new cause

-- the line was put, or cut where its put failed, or nothing of it was put where there was no memory for it
abbrev pub PutsOne : List ℕ → SinkAt → SinkAt → Result (Unit {0}) SinkFault → Type 0
PutsOne text old new (Ok done) = IsPut text old new
PutsOne text old new (Err sink.Failed) = IsCut text old new
PutsOne text old new (Err sink.Memory) = IsSilent old new

-- and the count of failed puts
pub record PutsLine (tells : Bool) (text : List ℕ) (old new : SinkAt) (result : Result (Unit {0}) SinkFault) : Type 0 where
  pub later : old.faults ≤ new.faults
  pub failed : IsErrOf result sink.Failed → Rose old.faults new.faults
  pub puts : tells ≡ true → PutsOne text old new result

-- the damage that the session found, if it found one
abbrev pub damage_in : CronEnd → Option Damage
damage_in (Damaged damage) = Some damage
damage_in Done = None
damage_in Busy = None
damage_in FileFault = None
damage_in QueueFull = None
damage_in NumbersUsedUp = None
damage_in Memory = None

-- the session was done
abbrev pub is_done_session : CronEnd → Bool
is_done_session Done = true
is_done_session Busy = false
is_done_session FileFault = false
is_done_session (Damaged damage) = false
is_done_session QueueFull = false
is_done_session NumbersUsedUp = false
is_done_session Memory = false

-- the line of an out-of-memory error may be missing
abbrev pub unless_memory : CronEnd → Option Cause
unless_memory Memory = None
unless_memory Done = Some cause.Memory
unless_memory Busy = Some cause.Memory
unless_memory FileFault = Some cause.Memory
unless_memory (Damaged damage) = Some cause.Memory
unless_memory QueueFull = Some cause.Memory
unless_memory NumbersUsedUp = Some cause.Memory

-- why no further session is made, by what came of the line of one
abbrev pub after_put : CronEnd → Result (Unit {0}) SinkFault → Option Cause
after_put end (Ok done) = None
after_put end (Err sink.Failed) = Some cause.OutputFault
after_put end (Err sink.Memory) = unless_memory end

-- a session was made after which another may come, before which so many seconds are to be rested
pub record ContinuesAfter (tells : Telling) (caller : Caller) (path : List ℕ) (next : Option ℕ)
    (old new : WorkAt CronAt) : Type 0 where
  pub item : CronItem
  pub made : IsSessionMade tells caller path item old new
  pub says : GoesOnSaying tells.errors item.end old.said new.said
  pub next_is : next ≡ Some (rest_after_session item.end item.now)

-- one more session, after the rest, by whether a further one may come
abbrev pub Turns : Telling → Caller → List ℕ → Option ℕ → WorkAt CronAt → (WorkAt CronAt) → Option Cause → Type 0
Turns tells caller path next old new None = ContinuesAfter tells caller path next old new
Turns tells caller path next old new (Some cause) = Stops tells caller path old new cause

-- so many sessions were made
pub record HasMadeSessions (tells : Telling) (caller : Caller) (path : List ℕ) (count : ℕ) (rest : Option ℕ)
    (first now : WorkAt CronAt) : Type 0 where
  pub items : List CronItem
  pub counted : length items ≡ count
  pub serves : MakesCronSessions tells caller path first items rest now
