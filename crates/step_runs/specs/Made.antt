-- What calls leave that make steps one after another (own): made to their end, or stopped on the way.
use Rattle.std.specs.Prelude.{◌≡◌, ◌⊎◌, ◌≤◌, ◌++◌, [], ◌∷◌, ℕ, ℤ, Bool, true, false, List, Some, Result, Ok, Err, length, map}
use Rattle.std.specs.FinMap as finite
use Rattle.host_calls.specs.declared.child.Asked.{Asked}
use Rattle.host_calls.specs.declared.child.Child.{Child}
use Rattle.host_calls.specs.declared.child.Handed.{Handed}
use Rattle.host_calls.specs.declared.fault.StartFault.{StartFault}
use Rattle.host_calls.specs.declared.fault.StartFault.TheVariants.{Failed, Memory}
use Rattle.host_calls.specs.Directory.{Files, IsImage}
use Rattle.host_calls.specs.World.{LeavesOnly, World}
use Rattle.queue_rules.specs.Queues.{niceness_of}
use Rattle.spool_model.specs.declared.entry.Entry.TheVariants.{Live}
use Rattle.spool_model.specs.declared.job.Job.{Job}
use Rattle.spool_model.specs.declared.step.Step.{Step}
use Rattle.spool_model.specs.declared.step.Step.TheVariants.{Start}
use Rattle.spool_model.specs.JobTable.{JobState, JobTable, entry_at}
use Rattle.spool_model.specs.Steps.{AreLegal, IsPrefix, after_steps}
use Rattle.spool_shows.specs.Shown.{Shows}
use Rattle.step_runs.specs.Calls.{KeepsOthers}
use Rattle.step_runs.specs.Current.{IsCurrent, Kept}
use Rattle.step_runs.specs.Hands.{Hands, IsStartOf}
use Rattle.step_runs.specs.Runs.{Runs, RunsThrough}

-- what was started by each moment of a run is a prefix of what is started at its end
abbrev pub HandsPrefixes : World → World → Type 0
HandsPrefixes old new = LeavesOnly (λ image handed. (rest : List Handed) × (new.now.handed ≡ handed ++ rest)) old new

-- The steps were made, each of them legal on its table: they are in every image, these scripts were handed
-- over and these questions asked, what is kept is current after all of them, and other files read as before.
pub record AreMade (table : JobTable) (steps : List Step) (given : List Handed) (questions : List Asked) (kept : Kept)
    (old new : World) : Type 0 where
  pub through : RunsThrough table steps given old new
  pub current : IsCurrent kept new.now.directory (after_steps table steps)
  pub others : KeepsOthers old.now.directory new.now.directory
  pub legal : AreLegal table steps
  pub prefixes : HandsPrefixes old new
  pub asked : new.asked ≡ old.asked ++ questions

-- The steps were made, and what stopped then may have made the next one, if there is one: each image shows
-- the table without it or with it. What was started and asked is that of the steps before it.
pub record AreStopped (table : JobTable) (steps next : List Step) (given : List Handed) (questions : List Asked)
    (old new : World) : Type 0 where
  pub few : length next ≤ 1
  pub legal : AreLegal table (steps ++ next)
  pub run : Runs table (steps ++ next) old new
  pub ends : (image : Files) → IsImage new.now.directory image →
      Shows image (after_steps table steps) ⊎ Shows image (after_steps table (steps ++ next))
  pub handed : new.now.handed ≡ old.now.handed ++ given
  pub hands : Hands table steps given
  pub prefixes : HandsPrefixes old new
  pub asked : new.asked ≡ old.asked ++ questions

-- the image shows the table after the steps and a prefix of the next ones
pub record ShowsAfterPrefix (table : JobTable) (steps next : List Step) (image : Files) : Type 0 where
  pub prefix : List Step
  pub is_prefix : IsPrefix prefix next
  pub shows : Shows image (after_steps table (steps ++ prefix))

-- The steps were made, and then a call was cut off that makes the next ones, however many: each image shows the table
-- after a prefix of these.
pub record AreCutOff (table : JobTable) (steps next : List Step) (old new : World) : Type 0 where
  pub legal : AreLegal table (steps ++ next)
  pub run : Runs table (steps ++ next) old new
  pub ends : (image : Files) → IsImage new.now.directory image → ShowsAfterPrefix table steps next image

-- whether a child came of each script that was started
abbrev pub flags_of : List Handed → List Bool
flags_of given = map (λ handed. handed.started) given

-- the file of this name has the script of the live job of the number, and this is the niceness of its queue
pub record IsScriptFile (table : JobTable) (files : Files) (number : ℕ) (name : List ℕ) (nice : ℕ) : Type 0 where
  pub job : Job
  pub state : JobState
  pub lives : entry_at table number ≡ Some (Live job state)
  pub held : finite.get files name ≡ Some job.script
  pub nice_is : nice ≡ niceness_of job.queue

-- the start was made and its script started, and a child came of it or none
pub record IsStarted (table : JobTable) (number : ℕ) (second : ℤ) (flag : Bool) (kept : Kept) (old new : World) : Type 0 where
  pub handed : Handed
  pub is : IsStartOf table number handed
  pub flagged : flags_of (handed ∷ []) ≡ flag ∷ []
  pub made : AreMade table (Start number second ∷ []) (handed ∷ []) [] kept old new

-- what a start leaves, by the answer of the host that was to take its script: for lack of memory it took none
abbrev pub StartEnds : JobTable → ℕ → ℤ → Kept → World → World → Result Child StartFault → Type 0
StartEnds table number second kept old new (Ok child) = IsStarted table number second true kept old new
StartEnds table number second kept old new (Err Failed) = IsStarted table number second false kept old new
StartEnds table number second kept old new (Err Memory) = AreStopped table [] (Start number second ∷ []) [] [] old new
