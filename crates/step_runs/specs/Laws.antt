-- What holds of every table without its scripts, and of every run of steps.
use Rattle.std.specs.Prelude.{◌≡◌, ◌↔◌, ◌++◌, [], ◌∷◌, ℕ, List, Some, option_map, Ok, map}
use Rattle.host_calls.specs.declared.child.Handed.{Handed}
use Rattle.host_calls.specs.World.{World, reading}
use Rattle.spool_model.specs.declared.entry.Entry.TheVariants.{Live}
use Rattle.spool_model.specs.declared.job.Job.{Job}
use Rattle.spool_model.specs.declared.step.Step.{Step}
use Rattle.spool_model.specs.JobTable.{JobState, JobTable, entry_at}
use Rattle.spool_model.specs.Lists.{done_count, done_numbers, live_count, live_rows}
use Rattle.spool_model.specs.Steps.{AreLegal, IsPrefix, IsLegal, after_step, after_steps}
use Rattle.spool_shows.specs.Shown.{shown_by}
use Rattle.whole_file.specs.Others.{ChangesFiles}
use Rattle.step_runs.specs.Attempts.{IsBegun, IsUnbegun}
use Rattle.step_runs.specs.WithoutScripts.{without_scripts, entry_without_script, step_without_script}
use Rattle.step_runs.specs.Calls.{IsSteppingOn, ShowsAsBefore}
use Rattle.step_runs.specs.Current.{EachShows}
use Rattle.step_runs.specs.Hands.{StartNothing}
use Rattle.step_runs.specs.Runs.{Runs, RunsThrough}

-- the entries are those of the table, without scripts
abbrev pub EntriesAreWithoutScripts : Type 0
EntriesAreWithoutScripts = (table : JobTable) (number : ℕ) →
    entry_at (without_scripts table) number ≡ option_map entry_without_script (entry_at table number)

-- no job there has a script
abbrev pub ScriptsAreGone : Type 0
ScriptsAreGone = (table : JobTable) (number : ℕ) (job : Job) (state : JobState) →
    entry_at (without_scripts table) number ≡ Some (Live job state) → job.script ≡ []

-- a step is legal there exactly where it is legal on the table
abbrev pub LegalAsOnTheTable : Type 0
LegalAsOnTheTable = (table : JobTable) (step : Step) → IsLegal (without_scripts table) (step_without_script step) ↔ IsLegal table step

-- it leads to the table after it, without scripts
abbrev pub StepsAsOnTheTable : Type 0
StepsAsOnTheTable = (table : JobTable) (step : Step) →
    without_scripts (after_step table step) ≡ after_step (without_scripts table) (step_without_script step)

-- steps are legal there exactly where they are legal on the table, each at its place
abbrev pub ListsLegalAsOnTheTable : Type 0
ListsLegalAsOnTheTable = (table : JobTable) (steps : List Step) →
    AreLegal (without_scripts table) (map step_without_script steps) ↔ AreLegal table steps

-- and they lead to the table after them, without scripts
abbrev pub ListsStepAsOnTheTable : Type 0
ListsStepAsOnTheTable = (table : JobTable) (steps : List Step) →
    without_scripts (after_steps table steps) ≡ after_steps (without_scripts table) (map step_without_script steps)

-- its live rows, done numbers and counts are those of the table
pub record HasTheLists (table : JobTable) : Type 0 where
  pub rows : live_rows (without_scripts table) ≡ live_rows table
  pub done : done_numbers (without_scripts table) ≡ done_numbers table
  pub live_counted : live_count (without_scripts table) ≡ live_count table
  pub done_counted : done_count (without_scripts table) ≡ done_count table

abbrev pub ListsAsOnTheTable : Type 0
ListsAsOnTheTable = (table : JobTable) → HasTheLists table

-- a run of a prefix of steps is a run of the steps
abbrev pub PrefixesRunAsTheSteps : Type 0
PrefixesRunAsTheSteps = (table : JobTable) (prefix steps : List Step) (old new : World) → IsPrefix prefix steps →
    Runs table prefix old new → Runs table steps old new

-- a run after one that was made to its end is one run of the steps of both
abbrev pub RunsGoOn : Type 0
RunsGoOn = (table : JobTable) (first later : List Step) (given : List Handed) (start middle end : World) →
    RunsThrough table first given start middle → Runs (after_steps table first) later middle end →
    Runs table (first ++ later) start end

-- and where it was made to its end too, so is that of both
abbrev pub RunsGoThrough : Type 0
RunsGoThrough = (table : JobTable) (first later : List Step) (given more : List Handed) (start middle end : World) →
    RunsThrough table first given start middle → RunsThrough (after_steps table first) later more middle end →
    RunsThrough table (first ++ later) (given ++ more) start end

-- a call of the store is a run of its steps, where they start nothing
abbrev pub CallsAreRuns : Type 0
CallsAreRuns = (table : JobTable) (steps : List Step) (old new : World) → StartNothing steps →
    EachShows old.now.directory table → ChangesFiles (IsSteppingOn table steps old.now.directory) old new →
    Runs table steps old new

-- a call of the store that makes one step is a run of it
abbrev pub OneStepIsARun : Type 0
OneStepIsARun = (table : JobTable) (step : Step) (old new : World) → EachShows old.now.directory table →
    ChangesFiles (IsSteppingOn table (step ∷ []) old.now.directory) old new → Runs table (step ∷ []) old new

-- a recovery that shows a table, and a run of steps that are legal on it, are an attempt
abbrev pub RunsAfterRecoveries : Type 0
RunsAfterRecoveries = (table : JobTable) (steps : List Step) (start middle end : World) →
    shown_by (reading start) ≡ Ok table → ChangesFiles (ShowsAsBefore start.now.directory) start middle → AreLegal table steps →
    Runs table steps middle end → IsBegun table steps start end

-- a recovery alone begins no step
abbrev pub RecoveriesBeginNothing : Type 0
RecoveriesBeginNothing = (start end : World) → ChangesFiles (ShowsAsBefore start.now.directory) start end → IsUnbegun start end
