-- What one event does to a host on which notices are sent too (own): an effect on the job table, or nothing but a
-- session next to it. A script that begins with the header of a job is one of a job; a notice begins with none.
use Rattle.std.specs.Prelude.{◌≡◌, ◌⊎◌, ◌++◌, [], ◌∷◌, Bool, List, filter, is_some, map}
use Rattle.host_calls.specs.declared.child.Handed.{Handed}
use Rattle.host_calls.specs.Directory.{Files, IsImage}
use Rattle.host_calls.specs.World.{HasEachImage, LeavesOnly, Moment, World}
use Rattle.job_script.specs.HeaderIn.{header_in}
use Rattle.spool_model.specs.declared.step.Step.{Step}
use Rattle.spool_model.specs.declared.step.Step.TheVariants.{Draw, Accept, Remove, Start, End, Interrupt, Forget}
use Rattle.spool_shows.specs.Shown.{shown_by}
use Rattle.step_runs.specs.Current.{IsSpoolName}
use Rattle.step_runs.specs.Hands.{StartNothing}
use Rattle.whole_file.specs.Others.{LeavesOthers}
use Rattle.headline.specs.Effects.{Effect, Passed, Untouched, steps_begun}
use Rattle.headline.specs.ShownEffects.{TakesShownEffect}

-- this was started for a job: it begins with a header
abbrev pub is_of_job : Handed → Bool
is_of_job handed = is_some (header_in handed.script)

-- of what was started, what was for jobs
abbrev pub of_jobs : List Handed → List Handed
of_jobs handed = filter is_of_job handed

-- a moment of which no more is known of what was started
abbrev pub jobs_at : Moment → Moment
jobs_at at = record { directory = at.directory; handed = of_jobs at.handed }

-- the world in which the scripts of jobs alone count as started
abbrev pub only_jobs : World → World
only_jobs world = record { now = jobs_at world.now; before = map jobs_at world.before; asked = world.asked }

-- none of the steps accepts a job
abbrev pub AcceptNothing : List Step → Type 0
AcceptNothing [] = Unit {0}
AcceptNothing (Accept number job ∷ later) = ⊥
AcceptNothing (Draw ∷ later) = AcceptNothing later
AcceptNothing (Remove number ∷ later) = AcceptNothing later
AcceptNothing (Start number second ∷ later) = AcceptNothing later
AcceptNothing (End number ending ∷ later) = AcceptNothing later
AcceptNothing (Interrupt number ∷ later) = AcceptNothing later
AcceptNothing (Forget number ∷ later) = AcceptNothing later

-- the steps start no job, as those of a command, or accept none, as those of a turn
abbrev pub DoOneThing : List Step → Type 0
DoOneThing steps = StartNothing steps ⊎ AcceptNothing steps

-- the image shows what an image of the start shows, and no script of a job was started since
pub record LeavesJobsAlone (start : Moment) (image : Files) (handed : List Handed) : Type 0 where
  pub from : Files
  pub was : IsImage start.directory from
  pub same : shown_by image ≡ shown_by from
  pub as_many : of_jobs handed ≡ of_jobs start.handed

-- The table was left alone: each image of each moment, and each that the end leaves, shows what was there before, and no
-- script of a job was started.
pub record WentBeside (old new : World) : Type 0 where
  pub leaves : LeavesOnly (LeavesJobsAlone old.now) old new
  pub now : HasEachImage (LeavesJobsAlone old.now) new.now

-- what an event did: an effect on the table, or something next to it
pub data LaterEffect : Type 0 where
  OfTable : (effect : Effect) → LaterEffect
  Beside : LaterEffect

-- the effect leads from one world to another, as far as images show it
abbrev pub TakesLaterEffect : LaterEffect → World → World → Type 0
TakesLaterEffect (OfTable effect) old new = DoOneThing (steps_begun effect) × TakesShownEffect effect old new
TakesLaterEffect Beside old new = WentBeside old new

-- an event that has passed: its effect, and the world that it left
pub record LaterPassed : Type 0 where
  pub effect : LaterEffect
  pub left : World

-- the events pass one after another, the first of them from this world on
abbrev pub LaterPassFrom : World → List LaterPassed → Type 0
LaterPassFrom old [] = Unit {0}
LaterPassFrom old (event ∷ later) = TakesLaterEffect event.effect old event.left × LaterPassFrom event.left later

-- what an event did to the table
abbrev pub effect_on_table : LaterEffect → Effect
effect_on_table (OfTable effect) = effect
effect_on_table Beside = Untouched

-- the events, where the scripts of jobs alone count as started
abbrev pub passed_jobs : List LaterPassed → List Passed
passed_jobs events = map (λ event. record { effect = effect_on_table event.effect; left = only_jobs event.left }) events

-- The image has the files of an image of the start that are none of the store's, and what was started since is for jobs.
pub record IsBesideTheStore (start : Moment) (image : Files) (handed : List Handed) : Type 0 where
  pub others : LeavesOthers IsSpoolName start.directory image
  pub given : List Handed
  pub grown : handed ≡ start.handed ++ given
  pub jobs : of_jobs given ≡ given

-- All other files were left alone: each image of each moment, and each that the end leaves, has those of before.
pub record LeavesTheRest (old new : World) : Type 0 where
  pub leaves : LeavesOnly (IsBesideTheStore old.now) old new
  pub now : HasEachImage (IsBesideTheStore old.now) new.now
