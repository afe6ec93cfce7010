-- What a turn leaves, by its end (own).
use Rattle.std.specs.Prelude.{◌≡◌, ◌⊎◌, ◌≤◌, ◌++◌, [], Bool, true, List, Option, Err, length, map}
use Rattle.host_calls.specs.declared.child.Ending.{Ending}
use Rattle.host_calls.specs.declared.child.Handed.{Handed}
use Rattle.host_calls.specs.Causes.{Rose}
use Rattle.host_calls.specs.Directory.{Files, IsImage}
use Rattle.host_calls.specs.Session.{IsOutside, KeepsCounts, Session}
use Rattle.host_calls.specs.World.{World, reading}
use Rattle.spool_model.specs.JobTable.{JobTable}
use Rattle.spool_model.specs.Steps.{after_steps}
use Rattle.spool_shows.specs.Shown.{Shows, shown_by}
use Rattle.step_runs.specs.Attempts.{IsAchieved, IsBegun, IsUnbegun}
use Rattle.step_runs.specs.Hands.{Hands}
use Rattle.step_runs.specs.Made.{HandsPrefixes, flags_of}
use Rattle.spool_store.specs.Recovery.{ShowsTheSame}
use Rattle.daemon_turn.specs.declared.kid.Kid.{Kid}
use Rattle.daemon_turn.specs.declared.turn_input.TurnInput.{TurnInput}
use Rattle.host_calls.specs.declared.turn_end.TurnEnd.{TurnEnd}
use Rattle.host_calls.specs.declared.turn_end.TurnEnd.TheVariants.{Done, Busy, FileFault, Damaged, Memory}
use Rattle.spool_model.specs.declared.turn_step.TurnStep.{TurnStep}
use Rattle.daemon_turn.specs.Daemons.{DaemonState}
use Rattle.daemon_turn.specs.Decisions.{asked_kids, questions}
use Rattle.daemon_turn.specs.Kids.{AreKidsByNumber, AreChildren, AreKidsAfter, KeepsChildren, started_numbers}
use Rattle.daemon_turn.specs.StartOrder.{Turn, turn_of}
use Rattle.spool_model.specs.StepsOf.{steps_of_turn}
use Rattle.daemon_turn.specs.Turning.{AreFirstSteps, AreTurnSteps}

-- a host at one moment, and what the daemon that works on it keeps
pub record DaemonAt : Type 0 where
  pub session : Session
  pub world : World
  pub daemon : DaemonState

-- What the turn started and asked, whose steps on the table were these. The children are those that stay, and the
-- children of the starts, each under its number.
pub record TurnHandsOver (table : JobTable) (steps : List TurnStep) (given : List Handed) (answers : List (Option Ending))
    (old new : DaemonAt) : Type 0 where
  pub handed : new.world.now.handed ≡ old.world.now.handed ++ given
  pub hands : Hands table (steps_of_turn steps) given
  pub prefixes : HandsPrefixes old.world new.world
  pub asked : new.world.asked ≡ old.world.asked ++ questions (asked_kids table old.daemon.kids) answers
  pub added : List Kid
  pub numbered : map (λ kid. kid.number) added ≡ started_numbers given
  pub children : new.session.children ≡ old.session.children ++ map (λ kid. kid.child) added
  pub kids : AreKidsAfter table steps old.daemon.kids added new.daemon.kids

-- The turn was made to its end: its steps are all those of a turn on the table that the reading showed, and they took
-- effect.
pub record IsTurnDone (turn : Turn) (steps : List TurnStep) (old new : DaemonAt) : Type 0 where
  pub table : JobTable
  pub given : List Handed
  pub answers : List (Option Ending)
  pub are : AreTurnSteps turn table answers (flags_of given) steps
  pub achieved : IsAchieved table (steps_of_turn steps) old.world new.world
  pub gave : TurnHandsOver table steps given answers old new

-- The turn was stopped after a recovery: these are the first of its steps, and the next one may have taken effect
-- too.
pub record IsTurnStopped (turn : Turn) (steps : List TurnStep) (old new : DaemonAt) : Type 0 where
  pub table : JobTable
  pub given : List Handed
  pub answers : List (Option Ending)
  pub next : List TurnStep
  pub few : length next ≤ 1
  pub first : AreFirstSteps turn table answers (flags_of given) (steps ++ next)
  pub begun : IsBegun table (steps_of_turn (steps ++ next)) old.world new.world
  pub ends : (image : Files) → IsImage new.world.now.directory image →
      Shows image (after_steps table (steps_of_turn steps)) ⊎ Shows image (after_steps table (steps_of_turn (steps ++ next)))
  pub gave : TurnHandsOver table steps given answers old new

-- no step was made, and the children are as before
pub record IsNoStepMade (steps : List TurnStep) (old new : DaemonState) : Type 0 where
  pub none : steps ≡ []
  pub kids : new.kids ≡ old.kids

-- The turn was stopped before a recovery succeeded: no step was begun, the reading shows what it showed, and the children
-- are as before.
pub record IsTurnIdle (steps : List TurnStep) (old new : DaemonAt) : Type 0 where
  pub none : IsNoStepMade steps old.daemon new.daemon
  pub unbegun : IsUnbegun old.world new.world
  pub shown : ShowsTheSame old.world.now.directory new.world.now.directory
  pub asked : new.world.asked ≡ old.world.asked

-- what a turn leaves, by its end
abbrev pub TurnLeaves : Turn → List TurnStep → DaemonAt → DaemonAt → TurnEnd → Type 0
TurnLeaves turn steps old new Done = IsTurnDone turn steps old new
TurnLeaves turn steps old new Busy = IsTurnIdle steps old new × (new.world ≡ old.world)
TurnLeaves turn steps old new FileFault = IsTurnIdle steps old new ⊎ IsTurnStopped turn steps old new
TurnLeaves turn steps old new (Damaged damage) =
    IsTurnIdle steps old new × (shown_by (reading old.world) ≡ Err damage) × (reading new.world ≡ reading old.world)
TurnLeaves turn steps old new Memory = IsTurnIdle steps old new ⊎ IsTurnStopped turn steps old new

-- where no table was read, no step was made
abbrev pub IfNoTableRead : TurnEnd → Type 0 → Type 0
IfNoTableRead Busy none = none
IfNoTableRead (Damaged damage) none = none
IfNoTableRead Done none = Unit {0}
IfNoTableRead FileFault none = Unit {0}
IfNoTableRead Memory none = Unit {0}

-- A turn. Of every host: its session is over, its children stay and the children are some of them, by number; the limit
-- and the interval stay; why it ended so. Of a host that exposes its files and is alone: what it leaves.
pub record TurnsTo (tells alone : Bool) (at : TurnInput) (old new : DaemonAt) (end : TurnEnd)
    (steps : List TurnStep) : Type 0 where
  pub outside : IsOutside new.session
  pub counts : KeepsCounts old.session new.session
  pub kept : KeepsChildren old.session.children new.session.children
  pub children : AreChildren new.session.children new.daemon.kids
  pub ordered : AreKidsByNumber new.daemon.kids
  pub limit : new.daemon.limit ≡ old.daemon.limit
  pub interval : new.daemon.interval ≡ old.daemon.interval
  pub busy : end ≡ Busy → Rose old.session.taken new.session.taken
  pub fault : end ≡ FileFault → Rose old.session.file_faults new.session.file_faults
  pub unread : IfNoTableRead end (IsNoStepMade steps old.daemon new.daemon)
  pub leaves : tells ≡ true → alone ≡ true → TurnLeaves (turn_of old.daemon at) steps old new end
