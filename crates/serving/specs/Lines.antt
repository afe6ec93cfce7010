-- What serving prints and says, turn by turn (own).
use Rattle.std.specs.Prelude.{◌++◌, [], ◌∷◌, ℕ, List, codes}
use Rattle.tool_output.specs.Sinks.{IsSilent, SinkAt}
use Rattle.tool_output.specs.Ends.{SaysEnd}
use Rattle.tool_output.specs.PutLines.{joined_lines}
use Rattle.tool_output.specs.Steps.{step_line}
use Rattle.spool_model.specs.declared.turn_step.TurnStep.{TurnStep}
use Rattle.serving.specs.Items.{TurnItem}

-- the name of the daemon, which begins its lines
abbrev pub daemon_name : List ℕ
daemon_name = codes "atd"

-- the lines of steps
abbrev pub step_lines : List TurnStep → List ℕ
step_lines steps = joined_lines step_line steps

-- the lines of the steps of turns
abbrev pub turn_lines : List TurnItem → List ℕ
turn_lines [] = []
turn_lines (item ∷ items) = step_lines item.steps ++ turn_lines items

-- what is said of the ends of turns, one after the other
abbrev pub SaysEnds : List TurnItem → SinkAt → SinkAt → Type 0
SaysEnds [] old new = IsSilent old new
SaysEnds (item ∷ items) old new = (between : SinkAt) × SaysEnd daemon_name item.end old between × SaysEnds items between new
