-- What steps of the job table start (own): the script of each start.
use Rattle.std.specs.Prelude.{◌≡◌, ◌⊎◌, ◌++◌, [], ◌∷◌, ℕ, ℤ, List, Some}
use Rattle.host_calls.specs.declared.child.Handed.{Handed}
use Rattle.queue_rules.specs.Queues.{niceness_of}
use Rattle.spool_model.specs.declared.entry.Entry.TheVariants.{Live}
use Rattle.spool_model.specs.declared.job.Job.{Job}
use Rattle.spool_model.specs.declared.state.State.TheVariants.{Pending}
use Rattle.spool_model.specs.declared.step.Step.{Step}
use Rattle.spool_model.specs.declared.step.Step.TheVariants.{Draw, Accept, Remove, Start, End, Interrupt, Forget}
use Rattle.spool_model.specs.JobTable.{JobTable, entry_at}
use Rattle.spool_model.specs.Steps.{after_step}

-- This was started for the start of the number on the table: the script of its job, as nice as its queue has it.
pub record IsStartOf (table : JobTable) (number : ℕ) (handed : Handed) : Type 0 where
  pub job : Job
  pub pending : entry_at table number ≡ Some (Live job Pending)
  pub number_is : handed.number ≡ number
  pub script : handed.script ≡ job.script
  pub nice : handed.nice ≡ niceness_of job.queue

-- what one step on a table starts: a start one script, another step nothing
abbrev pub HandsOne : JobTable → Step → List Handed → Type 0
HandsOne table (Start number second) given = (handed : Handed) × IsStartOf table number handed × (given ≡ handed ∷ [])
HandsOne table Draw given = given ≡ []
HandsOne table (Accept number job) given = given ≡ []
HandsOne table (Remove number) given = given ≡ []
HandsOne table (End number ending) given = given ≡ []
HandsOne table (Interrupt number) given = given ≡ []
HandsOne table (Forget number) given = given ≡ []

-- what steps on a table start, one after the other
abbrev pub Hands : JobTable → List Step → List Handed → Type 0
Hands table [] given = given ≡ []
Hands table (step ∷ later) given =
    (first : List Handed) × (rest : List Handed) × HandsOne table step first
    × Hands (after_step table step) later rest × (given ≡ first ++ rest)

-- The last step is a start whose script was not started yet; those before it have started these.
pub record LacksLast (table : JobTable) (steps : List Step) (given : List Handed) : Type 0 where
  pub earlier : List Step
  pub number : ℕ
  pub second : ℤ
  pub ends : steps ≡ earlier ++ Start number second ∷ []
  pub hands : Hands table earlier given

-- What was started once these steps took effect. A start takes effect before its script is started, so that of
-- the last step may be missing.
abbrev pub HandsByNow : JobTable → List Step → List Handed → Type 0
HandsByNow table steps given = Hands table steps given ⊎ LacksLast table steps given

-- none of the steps is a start
abbrev pub StartNothing : List Step → Type 0
StartNothing [] = Unit {0}
StartNothing (Start number second ∷ later) = ⊥
StartNothing (Draw ∷ later) = StartNothing later
StartNothing (Accept number job ∷ later) = StartNothing later
StartNothing (Remove number ∷ later) = StartNothing later
StartNothing (End number ending ∷ later) = StartNothing later
StartNothing (Interrupt number ∷ later) = StartNothing later
StartNothing (Forget number ∷ later) = StartNothing later
