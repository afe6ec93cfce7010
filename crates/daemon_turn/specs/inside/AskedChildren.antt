-- Children are asked whether they have ended (own).
use Rattle.std.specs.Prelude.{◌≡◌, ◌≤◌, [], Bool, true, List, Option, Result, Vec, IfOk, length}
use Rattle.std.specs.declared.alloc.Global.{Global}
use Rattle.host_calls.specs.declared.child.Ending.{Ending}
use Rattle.host_calls.specs.World.{World}
use Rattle.spool_model.specs.JobTable.{JobTable}
use Rattle.step_runs.specs.Current.{IsCurrent, Kept}
use Rattle.step_runs.specs.Made.{AreMade}
use Rattle.daemon_turn.specs.declared.kid.Kid.{Kid}
use Rattle.spool_model.specs.declared.turn_step.TurnStep.{TurnStep}
use Rattle.daemon_turn.specs.Decisions.{end_steps, questions}

-- The first of the children have answered so, and all of them where the call succeeded, which gives the ends that they
-- told. On a host that exposes its files these questions were asked and no step was made.
pub record AsksAll {E : Type 0} (tells : Bool) (kids : List Kid) (old new : World)
    (result : Result (Vec TurnStep Global) E) : Type 0 where
  pub answers : List (Option Ending)
  pub few : length answers ≤ length kids
  pub all : IfOk result (λ known. (length answers ≡ length kids) × (known.items ≡ end_steps kids answers))
  pub asked : tells ≡ true → (kept : Kept) (table : JobTable) → IsCurrent kept old.now.directory table →
      AreMade table [] [] (questions kids answers) kept old new
