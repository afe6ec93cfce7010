-- The lines that the tools print of jobs.
use Rattle.std.specs.Prelude.{ℕ, List, [], ◌∷◌, ◌++◌, codes}
use Rattle.std.specs.Fmt.{decimal}
use Rattle.host_calls.specs.declared.child.Ending.TheVariants.{Exit, Signal, NotStarted}
use Rattle.spool_model.specs.declared.row.Row.{Row}
use Rattle.spool_model.specs.declared.state.State.{State}
use Rattle.spool_model.specs.declared.state.State.TheVariants.{Pending, Running}
use Rattle.listing_text.specs.declared.turn_step.TurnStepText.{TurnStepText}
use Rattle.listing_text.specs.declared.turn_step.TurnStepText.TheVariants.{HandedOver, Ended, Interrupted}

-- the line of a job that was accepted (XCU at, STDERR: "job %s at %s\n")
abbrev pub accepted_line_of : ℕ → List ℕ → List ℕ
accepted_line_of number date = codes "job " ++ decimal number ++ codes " at " ++ date ++ codes "\n"

-- the letter for a state: = for running, else the letter that is given
abbrev pub letter_in : State → ℕ → ℕ
letter_in Pending queue = queue
letter_in (Running second) queue = 61

-- the letter of a job in a listing: = while it runs, else that of its queue (Debian atq(1))
abbrev pub letter_of_row : Row → ℕ
letter_of_row row = letter_in row.state row.queue

-- the line of a job in a listing (Debian atq(1))
abbrev pub queue_line_of : Row → List ℕ → List ℕ
queue_line_of row date =
    decimal row.number ++ codes "\t" ++ date ++ codes " " ++ letter_of_row row ∷ [] ++ codes " " ++ row.user
    ++ codes "\n"

-- what a step of a turn did to its job (own)
abbrev pub turn_text : TurnStepText → List ℕ
turn_text (HandedOver number) = codes "job " ++ decimal number ++ codes " handed over"
turn_text (Ended number (Exit code)) = codes "job " ++ decimal number ++ codes " exit " ++ decimal code
turn_text (Ended number (Signal signal)) = codes "job " ++ decimal number ++ codes " signal " ++ decimal signal
turn_text (Ended number NotStarted) = codes "job " ++ decimal number ++ codes " not started"
turn_text (Interrupted number) = codes "job " ++ decimal number ++ codes " interrupted"

-- the line of a step of a turn (own)
abbrev pub turn_line_of : TurnStepText → List ℕ
turn_line_of step = turn_text step ++ codes "\n"
