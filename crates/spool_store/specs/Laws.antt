-- What the lists of a store say of its table, as functions of the table, and what a submission adds to it (own).
use Rattle.std.specs.Prelude.{◌≡◌, ◌≤◌, ◌+◌, List, length, map}
use Rattle.spool_model.specs.declared.decided.Decided.{Decided}
use Rattle.spool_model.specs.declared.job.Job.{Job}
use Rattle.spool_model.specs.declared.row.Row.{Row}
use Rattle.spool_model.specs.JobTable.{JobTable}
use Rattle.spool_model.specs.Lists.{done_count, done_numbers, live_count, live_rows}
use Rattle.spool_model.specs.Steps.{after_steps, submission}
use Rattle.spool_store.specs.Listed.{ListsDecided, ListsLive}

-- the rows of a table are its live rows, and as many as its live jobs
abbrev pub RowsAreLive : Type 0
RowsAreLive = (table : JobTable) (rows : List Row) → ListsLive table rows → (live_rows table ≡ rows) ×
    (length rows ≡ live_count table)

-- the finished numbers of a table are its done ones, and as many
abbrev pub DecidedAreDone : Type 0
DecidedAreDone = (table : JobTable) (decided : List Decided) → ListsDecided table decided →
    (done_numbers table ≡ map (λ one. one.number) decided) × (length decided ≡ done_count table)

-- a submission adds one live job at most
abbrev pub SubmissionsAddOneJob : Type 0
SubmissionsAddOneJob = (table : JobTable) (job : Job) → live_count (after_steps table (submission table job)) ≤ live_count table + 1
