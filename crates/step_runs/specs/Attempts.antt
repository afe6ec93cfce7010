-- An attempt at some steps (own): a recovery, and then a run of them. What it leaves, however it ends.
use Rattle.std.specs.Prelude.{◌≡◌, ◌⊎◌, List, Ok}
use Rattle.host_calls.specs.declared.child.Handed.{Handed}
use Rattle.host_calls.specs.Directory.{Files}
use Rattle.host_calls.specs.World.{HasEachImage, LeavesOnly, Moment, World, reading}
use Rattle.spool_model.specs.declared.step.Step.{Step}
use Rattle.spool_model.specs.JobTable.{JobTable}
use Rattle.spool_model.specs.Steps.{AreLegal, after_steps}
use Rattle.spool_shows.specs.Shown.{shown_by}
use Rattle.step_runs.specs.Calls.{KeepsOthers, ShowsAsBefore}
use Rattle.step_runs.specs.Current.{EachShows}
use Rattle.step_runs.specs.Runs.{IsAlong}

-- the image shows what one of the start shows, and nothing was started since
abbrev pub IsAsBefore : Moment → Files → List Handed → Type 0
IsAsBefore start image handed = ShowsAsBefore start.directory image × (handed ≡ start.handed)

-- the image is as before, or along the steps
abbrev pub IsPartlyDone : JobTable → List Step → Moment → Files → List Handed → Type 0
IsPartlyDone table steps start image handed = IsAsBefore start image handed ⊎ IsAlong table steps start image handed

-- No step was begun: each image of each moment, and each that the end leaves, is as before.
pub record IsUnbegun (old new : World) : Type 0 where
  pub leaves : LeavesOnly (IsAsBefore old.now) old new
  pub now : HasEachImage (IsAsBefore old.now) new.now

-- The recovery succeeded, the table is the one that the reading showed, and the steps are legal on it. Each
-- image of each moment is on the way of the steps, and each that the end leaves is along them.
pub record IsBegun (table : JobTable) (steps : List Step) (old new : World) : Type 0 where
  pub shown : shown_by (reading old) ≡ Ok table
  pub legal : AreLegal table steps
  pub leaves : LeavesOnly (IsPartlyDone table steps old.now) old new
  pub now : HasEachImage (IsAlong table steps old.now) new.now

-- All steps were made: they are in every image, and other files read as before.
pub record IsAchieved (table : JobTable) (steps : List Step) (old new : World) : Type 0 where
  pub begun : IsBegun table steps old new
  pub whole : EachShows new.now.directory (after_steps table steps)
  pub others : KeepsOthers old.now.directory new.now.directory

-- An attempt at the steps that are those of the shown table: none was begun, or a prefix of them took effect.
abbrev pub Attempts : (JobTable → List Step → Type 0) → World → World → Type 0
Attempts AreSteps old new =
    IsUnbegun old new ⊎ ((table : JobTable) × (steps : List Step) × AreSteps table steps × IsBegun table steps old new)

-- an attempt that was made to its end: all of the steps took effect
abbrev pub Achieves : (JobTable → List Step → Type 0) → World → World → Type 0
Achieves AreSteps old new =
    (table : JobTable) × (steps : List Step) × AreSteps table steps × IsAchieved table steps old new
