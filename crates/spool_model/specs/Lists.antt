-- The live jobs and the done numbers of a job table as lists, by number (own).
use Rattle.std.specs.Prelude.{◌-◌, ℕ, Bool, true, false, List, Option, Some, None, length, take}
use Rattle.std.specs.FinMap.{entries}
use Rattle.std.specs.List.{filter, filter_map}
use Rattle.spool_model.specs.declared.entry.Entry.TheVariants.{Live, Done}
use Rattle.spool_model.specs.declared.decided.TheConstants.{MAX_DONE}
use Rattle.spool_model.specs.declared.row.Row.{Row}
use Rattle.spool_model.specs.declared.state.State.{State}
use Rattle.spool_model.specs.declared.state.State.TheVariants.{Pending, Running}
use Rattle.spool_model.specs.JobTable.{JobEntry, JobTable}

-- the job lives
abbrev pub is_live : JobEntry → Bool
is_live (Live job state) = true
is_live (Done fate) = false

-- the state is that of a job that runs
abbrev pub is_running : State → Bool
is_running Pending = false
is_running (Running second) = true

-- how many jobs live
abbrev pub live_count : JobTable → ℕ
live_count table = length (filter (λ entry. is_live entry.1) (entries table.entries))

-- the job is done
abbrev pub is_done : JobEntry → Bool
is_done (Live job state) = false
is_done (Done fate) = true

-- how many numbers are done
abbrev pub done_count : JobTable → ℕ
done_count table = length (filter (λ entry. is_done entry.1) (entries table.entries))

-- the row of an entry, if it is that of a live job
abbrev pub row_under : ℕ → JobEntry → Option Row
row_under number (Live job state) =
    Some (record { number = number; queue = job.queue; minute = job.minute; user = job.user; state = state })
row_under number (Done fate) = None

-- the rows of the live jobs, by number
abbrev pub live_rows : JobTable → List Row
live_rows table = filter_map (λ entry. row_under entry.0 entry.1) (entries table.entries)

-- the number of an entry, if its job is done
abbrev pub done_under : ℕ → JobEntry → Option ℕ
done_under number (Live job state) = None
done_under number (Done fate) = Some number

-- the numbers of the jobs that are done, in order
abbrev pub done_numbers : JobTable → List ℕ
done_numbers table = filter_map (λ entry. done_under entry.0 entry.1) (entries table.entries)

-- the lowest done numbers, as many as are more than a table may keep
abbrev pub surplus : JobTable → List ℕ
surplus table = take (length (done_numbers table) - MAX_DONE) (done_numbers table)
