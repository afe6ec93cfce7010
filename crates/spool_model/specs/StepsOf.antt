-- The steps of the job table that a turn reports (own).
use Rattle.std.specs.Prelude.{ℕ, List, map}
use Rattle.spool_model.specs.declared.step.Step.{Step}
use Rattle.spool_model.specs.declared.step.Step.TheVariants.{Start, End, Interrupt, Forget}
use Rattle.spool_model.specs.declared.turn_step.TurnStep.{TurnStep}
use Rattle.spool_model.specs.declared.turn_step.TurnStep.TheVariants.{HandedOver, Ended, Interrupted, Forgotten}

-- the step of the job table that a turn reports so
abbrev pub step_of : TurnStep → Step
step_of (HandedOver number second) = Start number second
step_of (Ended number ending) = End number ending
step_of (Interrupted number) = Interrupt number
step_of (Forgotten number) = Forget number

-- the steps of the job table, in order
abbrev pub steps_of_turn : List TurnStep → List Step
steps_of_turn steps = map step_of steps

-- the number of the job that the step is of
abbrev pub number_of_step : TurnStep → ℕ
number_of_step (HandedOver number second) = number
number_of_step (Ended number ending) = number
number_of_step (Interrupted number) = number
number_of_step (Forgotten number) = number
