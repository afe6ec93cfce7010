-- Steps that start nothing are made one after another, and written down (own).
use Rattle.std.specs.Prelude.{◌≡◌, ◌++◌, Bool, List, Result, IfOk}
use Rattle.host_calls.specs.Session.{Session}
use Rattle.host_calls.specs.World.{World}
use Rattle.step_runs.specs.Current.{Kept}
use Rattle.host_calls.specs.declared.store_fault.StoreFault.{StoreFault}
use Rattle.spool_model.specs.declared.turn_step.TurnStep.{TurnStep}
use Rattle.daemon_turn.specs.Turning.{IsStepsPrefix}
use Rattle.daemon_turn.specs.inside.TurnParts.{MakesPart, quiet_part}

-- The steps were made, or the first of them, and these were written down. Nothing was started or asked.
pub record MakesAll (tells : Bool) (before after : Session) (old new : World) (kept : Kept) (steps was is : List TurnStep)
    (result : Result Kept StoreFault) : Type 0 where
  pub made : List TurnStep
  pub next : List TurnStep
  pub goes : MakesPart tells before after old new kept (quiet_part made next) result
  pub prefix : IsStepsPrefix (made ++ next) steps
  pub all : IfOk result (λ store. made ≡ steps)
  pub written : is ≡ was ++ made
