-- The job table: what is known of each job, by its number. It holds no file, no name and no mark.
-- Source: own.
use Rattle.std.specs.Prelude.{◌≡◌, ◌≤◌, ◌==◌, ◌||◌, ◌&&◌, ℕ, ℤ, Bool, Option, Some, None, IsSome, nat_le}
use Rattle.std.specs.Ordering.{nat_cmp}
use Rattle.std.specs.FinMap as map
use Rattle.std.specs.FinMap.{FinMap}
use Rattle.spool_model.specs.declared.entry.Entry.{Entry}
use Rattle.spool_model.specs.declared.entry.Entry.TheVariants.{Live, Done}
use Rattle.spool_model.specs.declared.fate.Fate.{Fate}
use Rattle.spool_model.specs.declared.job.Job.{Job}
use Rattle.spool_model.specs.declared.state.State.{State}
use Rattle.spool_model.specs.declared.state.State.TheVariants.{Pending, Running}
use Rattle.spool_model.specs.declared.number.TheConstants.{LAST_NUMBER}

-- the entry of a job: Live with the job and its state, or Done with its fate
abbrev pub JobEntry : Type 0
JobEntry = Entry

-- the state of a live job: Pending, or Running since a second
abbrev pub JobState : Type 0
JobState = State

-- the entries, by the numbers of their jobs
abbrev pub JobEntries : Type 0
JobEntries = FinMap nat_cmp JobEntry

-- The job table: the number that was drawn last, the entries, and the second of the last batch start.
-- A number up to the last that has no entry was drawn and never accepted, or was forgotten.
pub record JobTable : Type 0 where
  pub last : ℕ
  pub entries : JobEntries
  pub last_batch : Option ℤ

-- the table of these three
abbrev pub table_of : ℕ → JobEntries → Option ℤ → JobTable
table_of last entries last_batch = record { last = last; entries = entries; last_batch = last_batch }

-- the table before the first job
abbrev pub new_table : JobTable
new_table = table_of 0 map.empty None

-- the entry under a number, if there is one
abbrev pub entry_at : JobTable → ℕ → Option JobEntry
entry_at table number = map.get table.entries number

-- the job under the number is pending
abbrev pub IsPending : JobTable → ℕ → Type 0
IsPending table number = (job : Job) × (entry_at table number ≡ Some (Live job Pending))

-- the job under the number is running
abbrev pub IsRunning : JobTable → ℕ → Type 0
IsRunning table number = (job : Job) × (second : ℤ) × (entry_at table number ≡ Some (Live job (Running second)))

-- the job under the number is done
abbrev pub IsDone : JobTable → ℕ → Type 0
IsDone table number = (fate : Fate) × (entry_at table number ≡ Some (Done fate))

-- a number that was drawn
pub record IsDrawn (table : JobTable) (number : ℕ) : Type 0 where
  pub some : 1 ≤ number
  pub drawn : number ≤ table.last

-- The table is sound: its numbers lie within the numbers of jobs, and each entry has one that was drawn.
pub record IsSound (table : JobTable) : Type 0 where
  pub few : table.last ≤ LAST_NUMBER
  pub each : (number : ℕ) → IsSome (entry_at table number) → IsDrawn table number

-- The queue is a batch queue: b, or A to Z (POSIX at: queue b is that of batch; the others as Debian's at has them).
abbrev pub is_batch_queue : ℕ → Bool
is_batch_queue queue = queue == 98 || (nat_le 65 queue && nat_le queue 90)
