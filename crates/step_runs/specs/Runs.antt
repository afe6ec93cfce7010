-- A run of steps (own): what a crash leaves at each of its moments, and what was started by then.
use Rattle.std.specs.Prelude.{◌≡◌, ◌++◌, List}
use Rattle.host_calls.specs.declared.child.Handed.{Handed}
use Rattle.host_calls.specs.Directory.{Files}
use Rattle.host_calls.specs.World.{HasEachImage, LeavesOnly, Moment, World}
use Rattle.spool_model.specs.declared.step.Step.{Step}
use Rattle.spool_model.specs.JobTable.{JobTable}
use Rattle.spool_model.specs.Steps.{after_steps}
use Rattle.step_runs.specs.Calls.{IsSteppingOn}
use Rattle.step_runs.specs.Current.{EachShows}
use Rattle.step_runs.specs.Hands.{Hands, HandsByNow}

-- The image shows the table after a prefix of the steps, other files are left alone, and since the start no
-- more was started than that prefix starts.
pub record IsAlong (table : JobTable) (steps : List Step) (start : Moment) (image : Files) (handed : List Handed) : Type 0 where
  pub stepping : IsSteppingOn table steps start.directory image
  pub given : List Handed
  pub grown : handed ≡ start.handed ++ given
  pub hands : HandsByNow table stepping.prefix given

-- A run of steps on a table: each image of each of its moments is along them, and so is each that the end leaves.
pub record Runs (table : JobTable) (steps : List Step) (old new : World) : Type 0 where
  pub leaves : LeavesOnly (IsAlong table steps old.now) old new
  pub now : HasEachImage (IsAlong table steps old.now) new.now

-- The run was made to its end: all steps are in every image, and all of their scripts were started.
pub record RunsThrough (table : JobTable) (steps : List Step) (given : List Handed) (old new : World) : Type 0 where
  pub run : Runs table steps old new
  pub whole : EachShows new.now.directory (after_steps table steps)
  pub handed : new.now.handed ≡ old.now.handed ++ given
  pub hands : Hands table steps given
