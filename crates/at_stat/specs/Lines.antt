-- The line of a job as text: fields with tabs between them (own).
use Rattle.std.specs.Prelude.{ℕ, List, ◌∷◌, ◌++◌, codes}
use Rattle.std.specs.Fmt.{decimal}
use Rattle.host_calls.specs.declared.child.Ending.TheVariants.{Exit, Signal, NotStarted}
use Rattle.spool_model.specs.declared.fate.Fate.{Fate}
use Rattle.spool_model.specs.declared.fate.Fate.TheVariants.{Removed, Finished, Interrupted}
use Rattle.spool_model.specs.declared.row.Row.{Row}
use Rattle.spool_model.specs.declared.state.State.TheVariants.{Pending, Running}
use Rattle.spool_model.specs.JobTable.{JobState}

-- the word of a live job's state
abbrev pub state_word : JobState → List ℕ
state_word Pending = codes "waiting"
state_word (Running second) = codes "running"

-- the line of a live job: its number, its state, the date, its queue and its user
abbrev pub live_line : Row → List ℕ → List ℕ
live_line row date =
    decimal row.number ++ codes "\t" ++ state_word row.state ++ codes "\t" ++ date ++ codes "\t"
    ++ row.queue ∷ codes "\t" ++ row.user ++ codes "\n"

-- what became of a job that is done
abbrev pub fate_text : Fate → List ℕ
fate_text Removed = codes "removed"
fate_text (Finished (Exit code)) = codes "exit\t" ++ decimal code
fate_text (Finished (Signal signal)) = codes "signal\t" ++ decimal signal
fate_text (Finished NotStarted) = codes "not started"
fate_text Interrupted = codes "interrupted"

-- the line of a number and a text
abbrev pub text_line : ℕ → List ℕ → List ℕ
text_line number text = decimal number ++ codes "\t" ++ text ++ codes "\n"
