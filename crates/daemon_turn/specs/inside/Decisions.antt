-- What is finished of running jobs is made (own).
use Rattle.std.specs.Prelude.{◌≡◌, ◌≤◌, ◌++◌, [], Bool, true, List, Option, Result, All, IfOk, length}
use Rattle.host_calls.specs.declared.child.Ending.{Ending}
use Rattle.host_calls.specs.Session.{Session}
use Rattle.host_calls.specs.World.{World}
use Rattle.spool_model.specs.JobTable.{JobTable}
use Rattle.step_runs.specs.Current.{Kept}
use Rattle.host_calls.specs.declared.store_fault.StoreFault.{StoreFault}
use Rattle.daemon_turn.specs.declared.kid.Kid.{Kid}
use Rattle.spool_model.specs.declared.turn_step.TurnStep.{TurnStep}
use Rattle.daemon_turn.specs.Decisions.{end_steps, interrupts, questions, runs_in}
use Rattle.daemon_turn.specs.Kids.{AreKidsByNumber, AreChildren}
use Rattle.daemon_turn.specs.Turning.{IsStepsPrefix}
use Rattle.daemon_turn.specs.inside.Ended.{without_ended}
use Rattle.daemon_turn.specs.inside.TurnParts.{MakesPart, MayMakePart, TurnPart}

-- The jobs that nobody watches were given up, and the children asked, whose ends were made: all of these steps, or the
-- first of them. Nothing was started.
pub record AreEndsRecorded (table : JobTable) (kids : List Kid) (part : TurnPart) (result : Result Kept StoreFault) : Type 0 where
  pub answers : List (Option Ending)
  pub few : length answers ≤ length kids
  pub prefix : IsStepsPrefix (part.steps ++ part.next) (interrupts table kids ++ end_steps kids answers)
  pub all : IfOk result (λ store.
      (length answers ≡ length kids) × (part.steps ≡ interrupts table kids ++ end_steps kids answers))
  pub asked : part.questions ≡ questions kids answers
  pub flags : part.flags ≡ []
  pub added : part.added ≡ []

-- what is finished was made, and written down
pub record MakesDecisions (tells : Bool) (before after : Session) (old new : World) (kept : Kept) (kids : List Kid)
    (was is : List TurnStep) (result : Result Kept StoreFault) : Type 0 where
  pub part : TurnPart
  pub goes : MakesPart tells before after old new kept part result
  pub decided : AreEndsRecorded kept.table kids part result
  pub written : is ≡ was ++ part.steps

-- and the children that have ended are dropped
pub record Decides (tells : Bool) (before after : Session) (old new : World) (kept : Kept) (kids left : List Kid)
    (was is : List TurnStep) (result : Result Kept StoreFault) : Type 0 where
  pub made : MakesDecisions tells before after old new kept kids was is result
  pub dropped : left ≡ without_ended made.part.steps kids

-- The children may be asked, and the jobs that nobody watches be given up: a session is on, the children are of jobs that
-- run, by number, and have children of the host.
pub record MayDecide (tells : Bool) (session : Session) (world : World) (kept : Kept) (kids : List Kid) : Type 0 where
  pub go : MayMakePart tells session world kept
  pub run : All (λ kid. runs_in kept.table kid ≡ true) kids
  pub ordered : AreKidsByNumber kids
  pub children : AreChildren session.children kids
