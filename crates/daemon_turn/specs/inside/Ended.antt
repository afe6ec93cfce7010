-- Ends by number, and the children that have none of them (own).
use Rattle.std.specs.Prelude.{◌≡◌, ◌<◌, Bool, true, false, not, List, All, AllPairs, filter}
use Rattle.std.specs.List.{list_any}
use Rattle.daemon_turn.specs.declared.kid.Kid.{Kid}
use Rattle.spool_model.specs.declared.turn_step.TurnStep.{TurnStep}
use Rattle.spool_model.specs.declared.turn_step.TurnStep.TheVariants.{HandedOver, Ended, Interrupted, Forgotten}
use Rattle.daemon_turn.specs.Kids.{tells_end_of}
use Rattle.spool_model.specs.StepsOf.{number_of_step}

-- the step is an end
abbrev pub is_end : TurnStep → Bool
is_end (Ended number ending) = true
is_end (HandedOver number second) = false
is_end (Interrupted number) = false
is_end (Forgotten number) = false

-- the steps are ends, by number
pub record AreEndsByNumber (steps : List TurnStep) : Type 0 where
  pub each : All (λ step. is_end step ≡ true) steps
  pub ordered : AllPairs (λ one other. number_of_step one < number_of_step other) steps

-- the children of which the steps report no end
abbrev pub without_ended : List TurnStep → List Kid → List Kid
without_ended steps kids = filter (λ kid. not (list_any (tells_end_of kid.number) steps)) kids
