-- The steps of a turn after its recovery (own).
use Rattle.std.specs.Prelude.{◌≡◌, ◌++◌, Bool, List, Option, Result, Ok, Err, map}
use Rattle.host_calls.specs.declared.child.Ending.{Ending}
use Rattle.host_calls.specs.Session.{Session}
use Rattle.host_calls.specs.World.{World}
use Rattle.spool_model.specs.JobTable.{JobTable}
use Rattle.step_runs.specs.Current.{Kept}
use Rattle.queue_rules.specs.Order.{Differ}
use Rattle.host_calls.specs.declared.store_fault.StoreFault.{StoreFault}
use Rattle.daemon_turn.specs.declared.kid.Kid.{Kid}
use Rattle.spool_model.specs.declared.turn_step.TurnStep.{TurnStep}
use Rattle.daemon_turn.specs.Decisions.{asked_kids, questions}
use Rattle.daemon_turn.specs.Kids.{AreChildren, kept_kids}
use Rattle.daemon_turn.specs.StartOrder.{Turn}
use Rattle.daemon_turn.specs.Turning.{AreFirstSteps, AreTurnSteps}
use Rattle.daemon_turn.specs.inside.TurnParts.{MakesPart, TurnPart}

-- all steps of the turn, or the first of them
abbrev pub AreStepsBy : Turn → JobTable → List (Option Ending) → TurnPart → Result Kept StoreFault → Type 0
AreStepsBy turn table answers part (Ok kept) = AreTurnSteps turn table answers part.flags part.steps
AreStepsBy turn table answers part (Err fault) = AreFirstSteps turn table answers part.flags (part.steps ++ part.next)

-- The steps of the turn were made on what is kept, or the first of them, and written down. The children left are those
-- that stay and those that were added, each with a child of the host, and no two with one number.
pub record MakesTurn (tells : Bool) (before after : Session) (old new : World) (kept : Kept) (turn : Turn) (left : List Kid)
    (report : List TurnStep) (result : Result Kept StoreFault) : Type 0 where
  pub part : TurnPart
  pub goes : MakesPart tells before after old new kept part result
  pub answers : List (Option Ending)
  pub are : AreStepsBy turn kept.table answers part result
  pub asked : part.questions ≡ questions (asked_kids kept.table turn.kids) answers
  pub written : report ≡ part.steps
  pub kids : left ≡ kept_kids kept.table part.steps turn.kids ++ part.added
  pub children : AreChildren after.children left
  pub apart : Differ (map (λ kid. kid.number) left)
