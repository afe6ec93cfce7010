-- How far the job of a number has come, by what the table has of it (own).
use Rattle.std.specs.Prelude.{ℕ, Option, Some, None}
use Rattle.host_calls.specs.ClockRange.{minute_at}
use Rattle.spool_model.specs.declared.entry.Entry.TheVariants.{Live, Done}
use Rattle.spool_model.specs.declared.row.Row.{Row}
use Rattle.spool_model.specs.declared.state.State.TheVariants.{Pending, Running}
use Rattle.spool_model.specs.JobTable.{JobEntry, JobState, JobTable, entry_at}
use Rattle.at_stat.specs.declared.stage.JobStage.{JobStage}
use Rattle.at_stat.specs.declared.stage.JobStage.TheVariants as stage

-- the stage of what a table has under a number
abbrev pub stage_under : ℕ → Option JobEntry → JobStage
stage_under number (Some (Live job state)) =
    stage.Live (record { number = number; queue = job.queue; minute = job.minute; user = job.user; state = state })
stage_under number (Some (Done fate)) = stage.Done fate
stage_under number None = stage.Forgotten

-- the stage of a number
abbrev pub stage_of_number : JobTable → ℕ → JobStage
stage_of_number table number = stage_under number (entry_at table number)

-- the minute that is shown of a live job: the one that it waits for, or that of its start
abbrev pub minute_of_job : JobState → ℕ → ℕ
minute_of_job Pending minute = minute
minute_of_job (Running second) minute = minute_at second

abbrev pub shown_minute : Row → ℕ
shown_minute row = minute_of_job row.state row.minute
