-- The lines of the steps of a turn (own).
use Rattle.std.specs.Prelude.{[], ℕ, List}
use Rattle.listing_text.specs.Lines.{turn_line_of}
use Rattle.listing_text.specs.declared.turn_step.TurnStepText.TheVariants as text
use Rattle.spool_model.specs.declared.turn_step.TurnStep.{TurnStep}
use Rattle.spool_model.specs.declared.turn_step.TurnStep.TheVariants.{HandedOver, Ended, Interrupted, Forgotten}

-- the line of a step: what is forgotten has none
abbrev pub step_line : TurnStep → List ℕ
step_line (HandedOver number second) = turn_line_of (text.HandedOver number)
step_line (Ended number ending) = turn_line_of (text.Ended number ending)
step_line (Interrupted number) = turn_line_of (text.Interrupted number)
step_line (Forgotten number) = []
