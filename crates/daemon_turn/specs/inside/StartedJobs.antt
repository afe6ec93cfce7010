-- Jobs are started one after another (own).
use Rattle.std.specs.Prelude.{◌≡◌, ◌≤◌, ◌++◌, [], ℕ, ℤ, Bool, List, Result, IfOk, length, map}
use Rattle.host_calls.specs.Session.{Session}
use Rattle.host_calls.specs.World.{World}
use Rattle.step_runs.specs.Current.{Kept}
use Rattle.host_calls.specs.declared.store_fault.StoreFault.{StoreFault}
use Rattle.daemon_turn.specs.declared.kid.Kid.{Kid}
use Rattle.spool_model.specs.declared.turn_step.TurnStep.{TurnStep}
use Rattle.daemon_turn.specs.StartOrder.{steps_of_starts}
use Rattle.daemon_turn.specs.Turning.{IsStepsPrefix}
use Rattle.daemon_turn.specs.inside.TurnParts.{MakesPart, TurnPart}
use Rattle.daemon_turn.specs.inside.PendingNumbers.{started_of}

-- The jobs of the numbers were started, or the first of them.
pub record AreJobsStarted (numbers : List ℕ) (second : ℤ) (part : TurnPart) (result : Result Kept StoreFault) : Type 0 where
  pub few : length part.flags ≤ length numbers
  pub prefix : IsStepsPrefix (part.steps ++ part.next) (steps_of_starts numbers second part.flags)
  pub all : IfOk result (λ store. (length part.flags ≡ length numbers) × (part.steps ≡ steps_of_starts numbers second part.flags))
  pub numbered : map (λ kid. kid.number) part.added ≡ started_of numbers part.flags
  pub asked : part.questions ≡ []

-- jobs were started, written down, and their children are children
pub record Launches (tells : Bool) (before after : Session) (old new : World) (kept : Kept) (numbers : List ℕ) (second : ℤ)
    (kids more : List Kid) (was is : List TurnStep) (result : Result Kept StoreFault) : Type 0 where
  pub part : TurnPart
  pub goes : MakesPart tells before after old new kept part result
  pub started : AreJobsStarted numbers second part result
  pub written : is ≡ was ++ part.steps
  pub kids_are : more ≡ kids ++ part.added
