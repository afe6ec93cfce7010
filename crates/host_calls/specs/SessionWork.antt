-- Work within a session of a host (own), whatever it does and answers.
use Rattle.std.specs.Prelude.{◌≡◌, true, Result, Ok, Err}
use Rattle.std.specs.Borrow.{MutBor}
use Rattle.std.specs.Fn.{CalledAtMut, Mut, Takes}
use Rattle.host_calls.specs.Causes.{Rose}
use Rattle.host_calls.specs.declared.fault.EnterFault.{EnterFault}
use Rattle.host_calls.specs.declared.fault.EnterFault.TheVariants.{Failed, Taken}
use Rattle.host_calls.specs.declared.host.Host.{Ghosts}
use Rattle.host_calls.specs.Session.{IsInside, IsLeft, KeepsCounts}
use Rattle.host_calls.specs.World.{TimePasses}

-- the calls of work on a host
abbrev pub Calls : Type 0 → Type 0 → Type 0 → Type 1
Calls H F T = Mut F (MutBor H × Unit {0}) (T × (MutBor H × Unit {0}))

-- what each image of a crash shows goes on, and nothing changes where nobody else changes the directory
pub record LeavesToOthers {H : Type 0} (g : Ghosts H) (old new : H) : Type 0 where
  pub goes_on : g.tells ≡ true → TimePasses (g.world old) (g.world new)
  pub alone : g.tells ≡ true → g.alone ≡ true → g.world new ≡ g.world old

-- the session began
pub record IsSessionBegun {H : Type 0} (g : Ghosts H) (old new : H) : Type 0 where
  pub inside : IsInside (g.session new)
  pub children : (g.session new).children ≡ (g.session old).children
  pub counts : KeepsCounts (g.session old) (g.session new)
  pub quiet : LeavesToOthers g old new

-- the work may be done at each host on which a session began over this one
abbrev pub MayWork : {H F T : Type 0} → Ghosts H → Calls H F T → F → H → Type 0
MayWork {H} g calls work host = (at : MutBor H) → IsSessionBegun g host at.now → Takes calls work (at, tt)

-- and it leaves the session on
abbrev pub StaysOn : {H F T : Type 0} → Ghosts H → Calls H F T → F → H → Type 0
StaysOn {H} {F} {T} g calls work host =
    (first last : H) (left : F) (answer : T) → IsSessionBegun g host first → CalledAtMut calls work first answer left last →
    IsInside (g.session last)

-- it could not begin: the lock was taken, a call failed, or memory ran out
pub record IsEntryRefused {H : Type 0} (g : Ghosts H) (fault : EnterFault) (old new : H) : Type 0 where
  pub left : IsLeft (g.session old) (g.session new)
  pub taken : fault ≡ Taken → Rose (g.session old).taken (g.session new).taken
  pub failed : fault ≡ Failed → Rose (g.session old).file_faults (g.session new).file_faults
  pub quiet : LeavesToOthers g old new

-- The session began, the work was done once, between these two hosts, and the session ended.
pub record IsDoneInside {H F T : Type 0} (g : Ghosts H) (calls : Calls H F T) (work left : F) (old new : H)
    (answer : T) : Type 0 where
  pub first : H
  pub last : H
  pub begun : IsSessionBegun g old first
  pub did : CalledAtMut calls work first answer left last
  pub over : IsLeft (g.session last) (g.session new)
  pub quiet : LeavesToOthers g last new

-- Nothing was done, since the session could not begin.
pub record IsWorkUndone {H F : Type 0} (g : Ghosts H) (work left : F) (old new : H) (fault : EnterFault) : Type 0 where
  pub refused : IsEntryRefused g fault old new
  pub same : left ≡ work

-- how it ends, by the answer
abbrev pub EndsSession : {H F T : Type 0} → Ghosts H → Calls H F T → F → F → H → H → Result T EnterFault → Type 0
EndsSession g calls work left old new (Ok answer) = IsDoneInside g calls work left old new answer
EndsSession g calls work left old new (Err fault) = IsWorkUndone g work left old new fault
