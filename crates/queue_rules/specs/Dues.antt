-- Lines of due jobs: in order of minute, then number (own).
use Rattle.std.specs.Prelude.{◌*◌, ◌&&◌, ◌||◌, ◌==◌, ℕ, ℤ, pos, Bool, not, List, AllPairs, IsPermutation, map, nat_lt}
use Rattle.std.specs.Int.RustNames.{int_le}
use Rattle.spool_model.specs.declared.row.Row.{Row}
use Rattle.spool_model.specs.JobTable.{is_batch_queue}
use Rattle.queue_rules.specs.Order.{IsNotAfter, is_pending, places_of}
use Rattle.queue_rules.specs.declared.due.Due.{Due}

-- the due minute and the number of a row
abbrev pub due_of_row : Row → Due
due_of_row row = record { minute = row.minute; number = row.number }

-- the place of a job in the line
abbrev pub due_place : Due → ℕ × ℕ
due_place due = (due.minute, due.number)

-- the first comes before the second
abbrev pub is_due_before : Due → Due → Bool
is_due_before first second = nat_lt first.minute second.minute || (first.minute == second.minute && nat_lt first.number second.number)

-- the minute of the job has begun
abbrev pub is_due_at : ℤ → Due → Bool
is_due_at now due = int_le (pos (60 * due.minute)) now

-- each job comes before the later ones, or in the same place
pub record AreInLine (due_jobs : List Due) : Type 0 where
  pub ordered : AllPairs (λ first second. IsNotAfter (due_place first) (due_place second)) due_jobs

-- the jobs are those of the rows that pass a test, in line
pub record IsLineOf (test : Row → Bool) (rows : List Row) (due_jobs : List Due) : Type 0 where
  pub same : IsPermutation (places_of test rows) (map due_place due_jobs)
  pub in_line : AreInLine due_jobs

-- the row waits outside the batch queues
abbrev pub is_waiting_job : Row → Bool
is_waiting_job row = is_pending row.state && not (is_batch_queue row.queue)

-- the row waits in a batch queue
abbrev pub is_waiting_batch : Row → Bool
is_waiting_batch row = is_pending row.state && is_batch_queue row.queue
