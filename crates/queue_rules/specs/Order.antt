-- Which jobs may start now, and in which order: by minute, then number (own).
use Rattle.std.specs.Prelude.{◌≡◌, ◌≢◌, ◌⊎◌, ◌<◌, ◌≤◌, ◌&&◌, ℕ, ℤ, Bool, true, false, not, List, map, filter, AllPairs, All, Contains, IsPermutation, IsTrue}
use Rattle.spool_model.specs.declared.row.Row.{Row}
use Rattle.spool_model.specs.declared.state.State.{State}
use Rattle.spool_model.specs.declared.state.State.TheVariants.{Pending, Running}
use Rattle.spool_model.specs.JobTable.{is_batch_queue}
use Rattle.queue_rules.specs.Queues.{is_due}

-- the state is that of a job that waits
abbrev pub is_pending : State → Bool
is_pending Pending = true
is_pending (Running _) = false

-- the job waits, and its minute has begun
abbrev pub is_ready : ℤ → Row → Bool
is_ready now row = is_pending row.state && is_due now row

-- the same of a job outside the batch queues
abbrev pub is_ready_job : ℤ → Row → Bool
is_ready_job now row = is_ready now row && not (is_batch_queue row.queue)

-- the same of a job of a batch queue
abbrev pub is_ready_batch : ℤ → Row → Bool
is_ready_batch now row = is_ready now row && is_batch_queue row.queue

-- the place of a job in the line: its minute and its number
abbrev pub place_in_queue : Row → ℕ × ℕ
place_in_queue row = (row.minute, row.number)

-- the first place comes before the second, or is the same
abbrev pub IsNotAfter : ℕ × ℕ → ℕ × ℕ → Type 0
IsNotAfter first second = (first.0 < second.0) ⊎ ((first.0 ≡ second.0) × (first.1 ≤ second.1))

-- the place is among the places, and comes after none of them
pub record IsFirstOf (places : List (ℕ × ℕ)) (place : ℕ × ℕ) : Type 0 where
  pub held : Contains places place
  pub first : All (IsNotAfter place) places

-- the places of the rows that pass a test
abbrev pub places_of : (Row → Bool) → List Row → List (ℕ × ℕ)
places_of test rows = map place_in_queue (filter test rows)

-- the numbers of the jobs outside the batch queues that are ready, by minute, then number
pub record AreInDueOrder (rows : List Row) (now : ℤ) (numbers : List ℕ) : Type 0 where
  pub places : List (ℕ × ℕ)
  pub same : IsPermutation (places_of (is_ready_job now) rows) places
  pub ordered : AllPairs IsNotAfter places
  pub numbered : numbers ≡ map (λ place. place.1) places

-- the number of the first job of the batch queues that is ready, by minute, then number
pub record IsFirstBatch (rows : List Row) (now : ℤ) (number : ℕ) : Type 0 where
  pub minute : ℕ
  pub first : IsFirstOf (places_of (is_ready_batch now) rows) (minute, number)

-- the number is that of a row that passes a test
pub record IsNumberOf (test : Row → Bool) (rows : List Row) (number : ℕ) : Type 0 where
  pub row : Row
  pub listed : Contains rows row
  pub passes : IsTrue (test row)
  pub named : row.number ≡ number

-- no two of the numbers are the same
abbrev pub Differ : List ℕ → Type 0
Differ numbers = AllPairs (λ first second. first ≢ second) numbers

-- the numbers of the rows
abbrev pub row_numbers : List Row → List ℕ
row_numbers rows = map (λ row. row.number) rows
