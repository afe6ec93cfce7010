-- What one event does to a host, as far as images show it and scripts are started (own): an effect, with no word of
-- other files than the store's. An event that changes other files too takes its effect so.
use Rattle.std.specs.Prelude.{◌≡◌, ◌⊎◌, ◌++◌, [], ◌∷◌, false, List, Ok}
use Rattle.host_calls.specs.declared.child.Handed.{Handed}
use Rattle.host_calls.specs.Directory.{Files, IsImage}
use Rattle.host_calls.specs.World.{HasEachImage, LeavesOnly, Moment, World, reading}
use Rattle.spool_model.specs.declared.step.Step.{Step}
use Rattle.spool_model.specs.JobTable.{JobTable}
use Rattle.spool_model.specs.Steps.{AreLegal, FollowDraws, IsPrefix, after_steps}
use Rattle.spool_shows.specs.Shown.{Shows, shown_by}
use Rattle.step_runs.specs.Current.{EachShows}
use Rattle.step_runs.specs.Hands.{HandsByNow}
use Rattle.headline.specs.Effects.{ComesUpWith, Crashed, Effect, Partial, Passed, Untouched, Whole}

-- the image shows what an image of the start shows, and nothing was started since
pub record IsShownAsBefore (start : Moment) (image : Files) (handed : List Handed) : Type 0 where
  pub from : Files
  pub was : IsImage start.directory from
  pub same : shown_by image ≡ shown_by from
  pub as_many : handed ≡ start.handed

-- the image shows the table after a prefix of the steps, and since the start no more was started than it starts
pub record IsShownAlong (table : JobTable) (steps : List Step) (start : Moment) (image : Files)
    (handed : List Handed) : Type 0 where
  pub prefix : List Step
  pub is_prefix : IsPrefix prefix steps
  pub shows : Shows image (after_steps table prefix)
  pub given : List Handed
  pub grown : handed ≡ start.handed ++ given
  pub hands : HandsByNow table prefix given

-- the image shows what was there before, or is along the steps
abbrev pub IsShownOnTheWay : JobTable → List Step → Moment → Files → List Handed → Type 0
IsShownOnTheWay table steps start image handed = IsShownAsBefore start image handed ⊎ IsShownAlong table steps start image handed

-- No step was begun: each image of each moment, and each that the end leaves, shows what was there before.
pub record IsShownUnbegun (old new : World) : Type 0 where
  pub leaves : LeavesOnly (IsShownAsBefore old.now) old new
  pub now : HasEachImage (IsShownAsBefore old.now) new.now

-- The table is the one that the reading showed, and the steps are legal on it. Each image of each moment is on the way of
-- the steps, and each that the end leaves is along them.
pub record IsShownBegun (table : JobTable) (steps : List Step) (old new : World) : Type 0 where
  pub shown : shown_by (reading old) ≡ Ok table
  pub legal : AreLegal table steps
  pub leaves : LeavesOnly (IsShownOnTheWay table steps old.now) old new
  pub now : HasEachImage (IsShownAlong table steps old.now) new.now

-- all steps were made: they are in every image
pub record IsShownAchieved (table : JobTable) (steps : List Step) (old new : World) : Type 0 where
  pub begun : IsShownBegun table steps old new
  pub whole : EachShows new.now.directory (after_steps table steps)

-- The effect leads from one world to another, as far as images show it. Each Accept comes directly after its Draw.
abbrev pub TakesShownEffect : Effect → World → World → Type 0
TakesShownEffect Untouched old new = IsShownUnbegun old new
TakesShownEffect (Partial table steps) old new = FollowDraws false steps × IsShownBegun table steps old new
TakesShownEffect (Whole table steps) old new = FollowDraws false steps × IsShownAchieved table steps old new
TakesShownEffect (Crashed image) old new = ComesUpWith image old new

-- the events pass so, one after another, the first of them from this world on
abbrev pub PassShownFrom : World → List Passed → Type 0
PassShownFrom old [] = Unit {0}
PassShownFrom old (event ∷ later) = TakesShownEffect event.effect old event.left × PassShownFrom event.left later
