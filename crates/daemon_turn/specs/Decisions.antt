-- What a turn decides of running jobs (own): one that nobody watches is given up, and one whose child has ended is done.
use Rattle.std.specs.Prelude.{◌==◌, ◌&&◌, ◌++◌, [], ◌∷◌, ℕ, Bool, false, not, List, Option, Some, None, filter, map}
use Rattle.std.specs.List.{list_any}
use Rattle.host_calls.specs.declared.child.Asked.{Asked}
use Rattle.host_calls.specs.declared.child.Ending.{Ending}
use Rattle.spool_model.specs.declared.entry.Entry.TheVariants.{Live, Done}
use Rattle.spool_model.specs.declared.row.Row.{Row}
use Rattle.spool_model.specs.JobTable.{JobEntry, JobTable, entry_at}
use Rattle.spool_model.specs.Lists.{is_running, live_rows}
use Rattle.daemon_turn.specs.declared.kid.Kid.{Kid}
use Rattle.spool_model.specs.declared.turn_step.TurnStep.{TurnStep}
use Rattle.spool_model.specs.declared.turn_step.TurnStep.TheVariants.{Ended, Interrupted}

-- the entry is that of a job that runs
abbrev pub is_running_entry : Option JobEntry → Bool
is_running_entry (Some (Live job state)) = is_running state
is_running_entry (Some (Done fate)) = false
is_running_entry None = false

-- the job of the child runs
abbrev pub runs_in : JobTable → Kid → Bool
runs_in table kid = is_running_entry (entry_at table kid.number)

-- the job has a child
abbrev pub has_kid : List Kid → ℕ → Bool
has_kid kids number = list_any (λ kid. kid.number == number) kids

-- the job runs, and has no child
abbrev pub is_job_without_kid : List Kid → Row → Bool
is_job_without_kid kids row = is_running row.state && not (has_kid kids row.number)

-- the jobs that run and have no child are given up, by number
abbrev pub interrupts : JobTable → List Kid → List TurnStep
interrupts table kids = map (λ row. Interrupted row.number) (filter (is_job_without_kid kids) (live_rows table))

-- the children that are asked: those whose job runs, by number
abbrev pub asked_kids : JobTable → List Kid → List Kid
asked_kids table kids = filter (runs_in table) kids

-- the questions to children that were answered so, the first children first
abbrev pub questions : List Kid → List (Option Ending) → List Asked
questions [] answers = []
questions (kid ∷ kids) [] = []
questions (kid ∷ kids) (answer ∷ answers) = record { child = kid.child; answer = answer } ∷ questions kids answers

-- the end that an answer gives for a job, if it is one
abbrev pub end_of : ℕ → Option Ending → List TurnStep
end_of number None = []
end_of number (Some ending) = Ended number ending ∷ []

-- the ends that the answers of children report, the first children first
abbrev pub end_steps : List Kid → List (Option Ending) → List TurnStep
end_steps [] answers = []
end_steps (kid ∷ kids) [] = []
end_steps (kid ∷ kids) (answer ∷ answers) = end_of kid.number answer ++ end_steps kids answers

-- what is finished of running jobs, by the answers of the children that are asked
abbrev pub decisions : JobTable → List Kid → List (Option Ending) → List TurnStep
decisions table kids answers = interrupts table kids ++ end_steps (asked_kids table kids) answers
