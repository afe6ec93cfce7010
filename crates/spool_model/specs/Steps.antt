-- The steps of the job table: when each is legal, and the table after it. Source: own.
use Rattle.std.specs.Prelude.{◌≡◌, ◌+◌, ◌≤◌, ◌<◌, ◌++◌, [], ◌∷◌, ℕ, ℤ, Bool, true, false, List, Option, Some, None, IsTrue, if◌then◌else◌, nat_eq}
use Rattle.std.specs.FinMap as map
use Rattle.spool_model.specs.declared.entry.Entry.TheVariants.{Live, Done}
use Rattle.spool_model.specs.declared.fate.Fate.TheVariants.{Removed, Finished, Interrupted}
use Rattle.spool_model.specs.declared.state.State.TheVariants.{Pending, Running}
use Rattle.spool_model.specs.declared.job.Job.{Job}
use Rattle.spool_model.specs.declared.step.Step.{Step}
use Rattle.spool_model.specs.declared.step.Step.TheVariants.{Draw, Accept, Remove, Start, End, Interrupt, Forget}
use Rattle.spool_model.specs.declared.number.TheConstants.{LAST_NUMBER}
use Rattle.spool_model.specs.JobTable.{JobTable, JobEntries, JobEntry, JobState, entry_at, is_batch_queue, IsPending, IsRunning, IsDone}

-- the number is the one that was drawn last, and no job has it
pub record IsFree (table : JobTable) (number : ℕ) : Type 0 where
  pub last : number ≡ table.last
  pub some : 1 ≤ number
  pub absent : entry_at table number ≡ None

-- The step is legal on the table.
abbrev pub IsLegal : JobTable → Step → Type 0
IsLegal table Draw = table.last < LAST_NUMBER
IsLegal table (Accept number job) = IsFree table number
IsLegal table (Remove number) = IsPending table number
IsLegal table (Start number second) = IsPending table number
IsLegal table (End number ending) = IsRunning table number
IsLegal table (Interrupt number) = IsRunning table number
IsLegal table (Forget number) = IsDone table number

-- the last number after a step: only a draw raises it
abbrev pub last_after : ℕ → Step → ℕ
last_after last Draw = last + 1
last_after last _ = last

-- the entry with its job, if it lives, in another state
abbrev pub in_state : JobState → JobEntry → JobEntry
in_state state (Live job _) = Live job state
in_state state (Done fate) = Done fate

-- the entries with the one under the number, which is given, in another state
abbrev pub with_state : ℕ → JobState → Option JobEntry → JobEntries → JobEntries
with_state number state (Some entry) entries = map.insert entries number (in_state state entry)
with_state number state None entries = entries

-- the entries after a step
abbrev pub entries_after : JobEntries → Step → JobEntries
entries_after entries Draw = entries
entries_after entries (Accept number job) = map.insert entries number (Live job Pending)
entries_after entries (Remove number) = map.insert entries number (Done Removed)
entries_after entries (Start number second) = with_state number (Running second) (map.get entries number) entries
entries_after entries (End number ending) = map.insert entries number (Done (Finished ending))
entries_after entries (Interrupt number) = map.insert entries number (Done Interrupted)
entries_after entries (Forget number) = map.remove entries number

-- the entry is that of a live job of a batch queue
abbrev pub is_batch_entry : Option JobEntry → Bool
is_batch_entry (Some (Live job _)) = is_batch_queue job.queue
is_batch_entry _ = false

-- the second of the last batch start after a step: only the start of a job of a batch queue sets it
abbrev pub last_batch_after : JobTable → Step → Option ℤ
last_batch_after table (Start number second) =
    if is_batch_entry (entry_at table number) then Some second else table.last_batch
last_batch_after table _ = table.last_batch

-- the table after a step
abbrev pub after_step : JobTable → Step → JobTable
after_step table step = record {
  last = last_after table.last step;
  entries = entries_after table.entries step;
  last_batch = last_batch_after table step;
}

-- the table after a list of steps, from the start
abbrev pub after_steps : JobTable → List Step → JobTable
after_steps table [] = table
after_steps table (step ∷ later) = after_steps (after_step table step) later

-- each of the steps is legal at its place
abbrev pub AreLegal : JobTable → List Step → Type 0
AreLegal table [] = Unit {0}
AreLegal table (step ∷ later) = IsLegal table step × AreLegal (after_step table step) later

-- the steps begin with these
abbrev pub IsPrefix : List Step → List Step → Type 0
IsPrefix prefix steps = (after : List Step) × (steps ≡ prefix ++ after)

-- Each Accept comes directly after a Draw. The flag says that one comes before the first step.
abbrev pub FollowDraws : Bool → List Step → Type 0
FollowDraws drawn [] = Unit {0}
FollowDraws drawn (Draw ∷ later) = FollowDraws true later
FollowDraws drawn (Accept number job ∷ later) = IsTrue drawn × FollowDraws false later
FollowDraws drawn (_ ∷ later) = FollowDraws false later

-- one more where the step accepts the number
abbrev pub plus_accepted : ℕ → Step → ℕ → ℕ
plus_accepted number (Accept other job) times = if nat_eq number other then times + 1 else times
plus_accepted number _ times = times

-- how often the steps accept the number
abbrev pub times_accepted : ℕ → List Step → ℕ
times_accepted number [] = 0
times_accepted number (step ∷ later) = plus_accepted number step (times_accepted number later)

-- the steps of a submission: the next number is drawn, and the job accepted under it
abbrev pub submission : JobTable → Job → List Step
submission table job = Draw ∷ Accept (table.last + 1) job ∷ []
