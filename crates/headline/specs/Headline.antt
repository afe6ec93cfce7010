-- What holds of every list of events (own): the state of the host, that no script is started twice, and that no
-- script is started before its start survives every crash.
use Rattle.std.specs.Prelude.{◌≡◌, ◌≢◌, ◌⊎◌, ◌++◌, [], ◌∷◌, ℕ, List, Some, None, All, AllPairs, Contains}
use Rattle.host_calls.specs.declared.child.Handed.{Handed}
use Rattle.host_calls.specs.Directory.{Files, IsImage}
use Rattle.host_calls.specs.World.{HasEachImage, LeavesOnly, Moment, World}
use Rattle.queue_rules.specs.Queues.{niceness_of}
use Rattle.spool_model.specs.declared.entry.Entry.TheVariants.{Done, Live}
use Rattle.spool_model.specs.declared.fate.Fate.{Fate}
use Rattle.spool_model.specs.declared.fate.Fate.TheVariants.{Removed}
use Rattle.spool_model.specs.declared.job.Job.{Job}
use Rattle.spool_model.specs.declared.state.State.TheVariants.{Pending}
use Rattle.spool_model.specs.declared.step.Step.{Step}
use Rattle.spool_model.specs.declared.step.Step.TheVariants.{Accept, Forget}
use Rattle.spool_model.specs.JobTable.{IsDrawn, IsRunning, JobTable, entry_at}
use Rattle.spool_model.specs.Steps.{IsPrefix, after_steps}
use Rattle.spool_shows.specs.Shown.{Shows}
use Rattle.headline.specs.Effects.{Whole, Partial, Crashed, Effect, Passed, Untouched, all_steps, world_after}
use Rattle.headline.specs.SpoolStates.{PassesStates, settled_at}

-- The steps are what is of an event in the end: all that it made, a prefix of those that it began, or none.
abbrev pub IsMadeOf : Effect → List Step → Type 0
IsMadeOf Untouched part = part ≡ []
IsMadeOf (Partial table steps) part = IsPrefix part steps
IsMadeOf (Whole table steps) part = part ≡ steps
IsMadeOf (Crashed image) part = part ≡ []

-- the table is the opening one after what is of each of the events, in their order
abbrev pub IsTableAfter : JobTable → List Passed → JobTable → Type 0
IsTableAfter opening [] table = table ≡ opening
IsTableAfter opening (event ∷ later) table =
    (part : List Step) × IsMadeOf event.effect part × IsTableAfter (after_steps opening part) later table

-- each image of the world after the events shows such a table
abbrev pub ShowsAfter : JobTable → List Passed → World → Type 0
ShowsAfter opening events new = (image : Files) → IsImage new.now.directory image →
    (table : JobTable) × Shows image table × IsTableAfter opening events table

-- the job was pending under the number in the table, or the steps accept it under that number
abbrev pub IsPendingOrAccepted : JobTable → List Step → ℕ → Job → Type 0
IsPendingOrAccepted table steps number job =
    (entry_at table number ≡ Some (Live job Pending)) ⊎ Contains steps (Accept number job)

-- the script that was started is that of such a job, as nice as its queue has it
pub record IsScriptOfJob (table : JobTable) (steps : List Step) (handed : Handed) : Type 0 where
  pub job : Job
  pub of_job : IsPendingOrAccepted table steps handed.number job
  pub script : handed.script ≡ job.script
  pub nice : handed.nice ≡ niceness_of job.queue

-- no two of the scripts have one number
abbrev pub NumbersDiffer : List Handed → Type 0
NumbersDiffer given = AllPairs (λ first second. first.number ≢ second.number) given

-- From one world to another no number was started twice, and each script is that of a job that was pending in the
-- table or that the steps accept.
pub record HandedOnce (table : JobTable) (steps : List Step) (old new : World) : Type 0 where
  pub given : List Handed
  pub grown : new.now.handed ≡ old.now.handed ++ given
  pub once : NumbersDiffer given
  pub of_jobs : All (IsScriptOfJob table steps) given

-- what an effect starts: scripts of jobs of the table that the directory showed when it began, and none where none began
abbrev pub EffectHandsOver : Effect → World → World → Type 0
EffectHandsOver Untouched old new = new.now.handed ≡ old.now.handed
EffectHandsOver (Partial table steps) old new = HandedOnce table steps old new
EffectHandsOver (Whole table steps) old new = HandedOnce table steps old new
EffectHandsOver (Crashed image) old new = new.now.handed ≡ old.now.handed

-- each of the events starts so
abbrev pub EachHandsOver : World → List Passed → Type 0
EachHandsOver old [] = Unit {0}
EachHandsOver old (event ∷ later) = EffectHandsOver event.effect old event.left × EachHandsOver event.left later

-- the job of the number is done, and was not removed: its child has ended, none came, or it was given up
abbrev pub IsOver : JobTable → ℕ → Type 0
IsOver table number = (fate : Fate) × (entry_at table number ≡ Some (Done fate)) × (fate ≢ Removed)

-- the job of the number was started: it runs or is over, or one of the steps has forgotten it
abbrev pub IsStartedOn : JobTable → List Step → ℕ → Type 0
IsStartedOn table steps number =
    IsRunning table number ⊎ (IsOver table number ⊎ ((entry_at table number ≡ None) × Contains steps (Forget number)))

-- the start of what was started is in the table: its number was drawn, and its job was started
pub record StartHolds (table : JobTable) (steps : List Step) (handed : Handed) : Type 0 where
  pub drawn : IsDrawn table handed.number
  pub started : IsStartedOn table steps handed.number

-- The image shows a table in which the start of each script has taken effect that was started since the first moment,
-- no two of them under one number.
pub record StartsSurvive (steps : List Step) (first : Moment) (image : Files) (handed : List Handed) : Type 0 where
  pub table : JobTable
  pub shows : Shows image table
  pub given : List Handed
  pub grown : handed ≡ first.handed ++ given
  pub once : NumbersDiffer given
  pub stand : All (StartHolds table steps) given

-- What holds of events that begin where each image of the directory shows the opening table. Each image shows it after
-- what took effect of each event; before each event and after the last the host is in the state where they leave it;
-- over all of them no number is started twice, and each starts scripts of its own table alone; and at each moment every
-- image shows a table in which each start took effect.
pub record Headline (opening : JobTable) (events : List Passed) (old : World) : Type 0 where
  pub shows : ShowsAfter opening events (world_after old events)
  pub holds : PassesStates old (settled_at opening) events
  pub handed : HandedOnce opening (all_steps events) old (world_after old events)
  pub each : EachHandsOver old events
  pub survive : LeavesOnly (StartsSurvive (all_steps events) old.now) old (world_after old events)
  pub now : HasEachImage (StartsSurvive (all_steps events) old.now) (world_after old events).now
