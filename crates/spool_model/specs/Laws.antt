-- What holds of every list of legal steps.
use Rattle.std.specs.Prelude.{◌≡◌, ◌≤◌, ◌++◌, ℕ, List, Some, IsSome, false}
use Rattle.spool_model.specs.declared.entry.Entry.TheVariants.{Live}
use Rattle.spool_model.specs.declared.job.Job.{Job}
use Rattle.spool_model.specs.declared.state.State.TheVariants.{Pending}
use Rattle.spool_model.specs.declared.step.Step.{Step}
use Rattle.spool_model.specs.JobTable.{JobTable, IsSound, entry_at}
use Rattle.spool_model.specs.Steps.{IsLegal, AreLegal, FollowDraws, after_step, after_steps, times_accepted}

-- the last number never falls
abbrev pub LastNeverFalls : Type 0
LastNeverFalls = (table : JobTable) (steps : List Step) → AreLegal table steps →
    table.last ≤ (after_steps table steps).last

-- a job that is pending after a step, under a number that had an entry, was pending before it
abbrev pub NoStepLeadsBackToPending : Type 0
NoStepLeadsBackToPending = (table : JobTable) (step : Step) → IsLegal table step → (number : ℕ) (job : Job) →
    IsSome (entry_at table number) →
    entry_at (after_step table step) number ≡ Some (Live job Pending) →
    entry_at table number ≡ Some (Live job Pending)

-- where each Accept comes directly after its Draw, each number is accepted at most once
abbrev pub NumbersAreAcceptedOnce : Type 0
NumbersAreAcceptedOnce = (table : JobTable) (steps : List Step) → AreLegal table steps → FollowDraws false steps →
    (number : ℕ) → times_accepted number steps ≤ 1

-- there, a number that was drawn before is no longer accepted
abbrev pub OldNumbersAreNotAccepted : Type 0
OldNumbersAreNotAccepted = (table : JobTable) (steps : List Step) → AreLegal table steps → FollowDraws false steps →
    (number : ℕ) → number ≤ table.last → times_accepted number steps ≡ 0

-- the steps keep a sound table sound
abbrev pub StepsKeepTheTableSound : Type 0
StepsKeepTheTableSound = (table : JobTable) (steps : List Step) → IsSound table → AreLegal table steps →
    IsSound (after_steps table steps)

-- the prefix of legal steps is legal, and what is after it is legal on the table after it
pub record PrefixAndRest (table : JobTable) (prefix after : List Step) : Type 0 where
  pub prefix_legal : AreLegal table prefix
  pub rest_legal : AreLegal (after_steps table prefix) after
  pub joined : after_steps table (prefix ++ after) ≡ after_steps (after_steps table prefix) after

-- each prefix of legal steps is so
abbrev pub PrefixesAreLegal : Type 0
PrefixesAreLegal = (table : JobTable) (prefix after : List Step) → AreLegal table (prefix ++ after) →
    PrefixAndRest table prefix after
