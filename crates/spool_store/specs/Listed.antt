-- Lists of rows and of finished numbers in the order of their numbers, what they say of a table, and one change of
-- such a list (own).
use Rattle.std.specs.Prelude.{◌≡◌, ◌≤◌, ◌++◌, [], ℕ, List, Option, Some, None, IsSome, IsTrue, Contains, map, if◌then◌else◌, nat_eq}
use Rattle.std.specs.FinMap.{find, is_sorted}
use Rattle.std.specs.Ordering.{nat_cmp}
use Rattle.spool_model.specs.declared.decided.Decided.{Decided}
use Rattle.spool_model.specs.declared.entry.Entry.TheVariants.{Live, Done}
use Rattle.spool_model.specs.declared.fate.Fate.{Fate}
use Rattle.spool_model.specs.declared.job.Job.{Job}
use Rattle.spool_model.specs.declared.row.Row.{Row}
use Rattle.spool_model.specs.JobTable.{JobEntry, JobState, JobTable, entry_at}
use Rattle.spool_store.specs.Rows.{decided_entry, row_entry}

-- the job of a row, without its script
abbrev pub row_job : Row → Job
row_job row = record { queue = row.queue; minute = row.minute; user = row.user; script = [] }

-- the numbers of the entries strictly rise
abbrev pub AreSortedEntries : List (ℕ × JobEntry) → Type 0
AreSortedEntries entries = IsTrue (is_sorted nat_cmp entries)

-- the first entry under the number, if there is one
abbrev pub entry_under : List (ℕ × JobEntry) → ℕ → Option JobEntry
entry_under entries number = find nat_cmp number entries

-- The entries of rows and those of finished numbers: each list in order, no number in both, and each number drawn.
pub record AreListed (last : ℕ) (live decided : List (ℕ × JobEntry)) : Type 0 where
  pub live_rise : AreSortedEntries live
  pub decided_rise : AreSortedEntries decided
  pub apart : (number : ℕ) → IsSome (entry_under live number) → entry_under decided number ≡ None
  pub drawn : (number : ℕ) → IsSome (entry_under (live ++ decided) number) → (1 ≤ number) × (number ≤ last)

-- a live job is under the number
abbrev pub IsLive : JobTable → ℕ → Type 0
IsLive table number = (job : Job) × (state : JobState) × (entry_at table number ≡ Some (Live job state))

-- the row is that of the live job under the number
pub record IsRowOf (table : JobTable) (number : ℕ) (row : Row) : Type 0 where
  pub number_is : row.number ≡ number
  pub held : entry_at table number ≡ Some (row_entry row).1

-- The rows are those of the table's live jobs, in order.
pub record ListsLive (table : JobTable) (rows : List Row) : Type 0 where
  pub rise : AreSortedEntries (map row_entry rows)
  pub each : (row : Row) → Contains rows row → entry_at table row.number ≡ Some (row_entry row).1
  pub all : (number : ℕ) (job : Job) (state : JobState) → entry_at table number ≡ Some (Live job state)
      → (row : Row) × Contains rows row × (row_entry row ≡ (number, Live job state))

-- These are the table's finished numbers, in order.
pub record ListsDecided (table : JobTable) (decided : List Decided) : Type 0 where
  pub rise : AreSortedEntries (map decided_entry decided)
  pub each : (done : Decided) → Contains decided done → entry_at table done.number ≡ Some (Done done.fate)
  pub all : (number : ℕ) (fate : Fate) → entry_at table number ≡ Some (Done fate)
      → (done : Decided) × Contains decided done × (decided_entry done ≡ (number, Done fate))

-- The new list, in order, is the old one but for what it has under the number.
pub record IsEdited (old new : List (ℕ × JobEntry)) (number : ℕ) (put : Option JobEntry) : Type 0 where
  pub rise : AreSortedEntries new
  pub finds : (other : ℕ) → entry_under new other ≡ (if nat_eq other number then put else entry_under old other)
