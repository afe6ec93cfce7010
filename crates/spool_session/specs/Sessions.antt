-- The session of a command, round its work (own).
use Rattle.std.specs.Prelude.{◌≡◌, ◌⊎◌, true, Result, Err, IfErr}
use Rattle.std.specs.Borrow.{MutBor}
use Rattle.std.specs.Fn.{CalledAtMut, Takes}
use Rattle.host_calls.specs.Causes.{Rose}
use Rattle.host_calls.specs.declared.fault.EnterFault.{EnterFault}
use Rattle.host_calls.specs.declared.host.Host.{Ghosts}
use Rattle.host_calls.specs.Session.{CallsInside, IsInside, IsLeft}
use Rattle.host_calls.specs.World.{TimePasses}
use Rattle.host_calls.specs.SessionWork.{Calls, IsDoneInside, IsWorkUndone}
use Rattle.listing_text.specs.declared.cause.Cause.{Cause}
use Rattle.listing_text.specs.declared.cause.Cause.TheVariants.{Refused, FileFault, OutputFault, Busy, Memory, Damaged}
use Rattle.tool_output.specs.Causes.{cause_of_entry, error_of}
use Rattle.command_rules.specs.Checks.{check_of, is_earlier_check, of_lock}
use Rattle.command_rules.specs.Ends.{StopsBeforeLock}
use Rattle.tool_output.specs.declared.command_error.CommandError.{CommandError}

-- a cause that comes within a session: the lock was had, and the inputs were read before
abbrev pub IsOfSession : Cause → Type 0
IsOfSession FileFault = Unit {0}
IsOfSession OutputFault = Unit {0}
IsOfSession Memory = Unit {0}
IsOfSession (Refused refusal) = is_earlier_check of_lock (check_of refusal) ≡ true
IsOfSession (Damaged damage) = Unit {0}
IsOfSession _ = ⊥

-- the command was stopped by one of these
abbrev pub ComesOfSession : CommandError → Type 0
ComesOfSession stopped = IsOfSession stopped.cause

-- the work may be done at each host within a session
abbrev pub MayWorkInside : {H F T : Type 0} → Ghosts H → Calls H F T → F → Type 0
MayWorkInside {H} g calls work = (at : MutBor H) → IsInside (g.session at.now) → Takes calls work (at, tt)

-- Work within a session: it stays in the session and starts no child, it starts nothing, and each fault of a file comes
-- only where their count rose.
pub record WorksInside {H T : Type 0} (g : Ghosts H) (old new : H) (result : Result T CommandError) : Type 0 where
  pub inside : CallsInside (error_of FileFault) (g.session old) (g.session new) result
  pub comes : IfErr result ComesOfSession
  pub goes_on : g.tells ≡ true → TimePasses (g.world old) (g.world new)

-- each call of it within a session is such work
abbrev pub IsWork : {H F T : Type 0} → Ghosts H → Calls H F (Result T CommandError) → F → Type 0
IsWork {H} {F} {T} g calls work =
    (old new : H) (left : F) (result : Result T CommandError) → IsInside (g.session old) →
    CalledAtMut calls work old result left new →
    WorksInside g old new result

-- no session is on, no child was started, and nothing was started
pub record StaysQuiet {H : Type 0} (g : Ghosts H) (old new : H) : Type 0 where
  pub left : IsLeft (g.session old) (g.session new)
  pub goes_on : g.tells ≡ true → TimePasses (g.world old) (g.world new)

-- A fault of a file, or a lock that was taken, comes only where its count rose. What stops before the lock leaves the
-- session as it was.
pub record HasRisenIn {H : Type 0} (g : Ghosts H) (old new : H) (cause : Cause) : Type 0 where
  pub file_fault : cause ≡ FileFault → Rose (g.session old).file_faults (g.session new).file_faults
  pub busy : cause ≡ Busy → Rose (g.session old).taken (g.session new).taken
  pub before_lock : StopsBeforeLock cause → g.session new ≡ g.session old

-- the session could not begin, and so nothing was done
pub record IsUnentered {H F T : Type 0} (g : Ghosts H) (work left : F) (old new : H)
    (result : Result T CommandError) : Type 0 where
  pub fault : EnterFault
  pub is : result ≡ Err (error_of (cause_of_entry fault))
  pub undone : IsWorkUndone g work left old new fault

-- how the session ends: it could not begin, or the work was done in it
abbrev pub EndsCommandSession : {H F T : Type 0} → Ghosts H → Calls H F (Result T CommandError) → F → F → H → H →
    Result T CommandError
    → Type 0
EndsCommandSession g calls work left old new result =
    IsUnentered g work left old new result ⊎ IsDoneInside g calls work left old new result
