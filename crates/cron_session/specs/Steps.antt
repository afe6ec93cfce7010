-- What a session of a crontab is to do (own): which entries are due at its minute, the jobs of these, and the steps by
-- which they are submitted.
use Rattle.std.specs.Prelude.{◌≡◌, ◌+◌, ◌*◌, ◌≤◌, ◌<◌, [], ◌∷◌, ℕ, ℤ, pos, zero, suc, false, List, Option, Some, None, length, map}
use Rattle.std.specs.FinMap as finite
use Rattle.std.specs.List.{filter}
use Rattle.host_calls.specs.ClockRange.{minute_at}
use Rattle.host_calls.specs.Directory.{Files}
use Rattle.spool_model.specs.declared.job.Job.{Job}
use Rattle.spool_model.specs.declared.number.TheConstants.{LAST_NUMBER}
use Rattle.spool_model.specs.declared.step.Step.{Step}
use Rattle.spool_model.specs.declared.step.Step.TheVariants.{Draw, Accept}
use Rattle.spool_model.specs.JobTable.{JobTable}
use Rattle.spool_model.specs.Lists.{live_count}
use Rattle.job_script.specs.declared.context.Context.{Context}
use Rattle.spool_shows.specs.Shown.{Shows}
use Rattle.spool_model.specs.declared.row.TheConstants.{MAX_LIVE}
use Rattle.job_script.specs.JobText.{job_for}
use Rattle.civil_minute.specs.Civil.{IsCivilTime}
use Rattle.civil_minute.specs.declared.civil.CivilMinute.{CivilMinute}
use Rattle.civil_minute.specs.declared.zone.Zone.{Zone}
use Rattle.cron_text.specs.declared.entry.CronEntry.{CronEntry}
use Rattle.cron_minutes.specs.Commands.{commands}
use Rattle.cron_minutes.specs.Due.{is_entry_due}
use Rattle.cron_session.specs.Mark.{IsMark}
use Rattle.cron_session.specs.MarkNames.{mark_file}
use Rattle.cron_session.specs.declared.session.TheConstants.{CRON_QUEUE}

-- a session: what its jobs take over, the zone in which the entries are meant, the entries, and the second
pub record Cron : Type 0 where
  pub context : Context
  pub zone : Zone
  pub entries : List CronEntry
  pub now : ℤ

-- the minute of its second
abbrev pub minute_of : Cron → ℕ
minute_of cron = minute_at cron.now

-- the job of an entry, at the minute of the session
abbrev pub job_of_entry : Cron → CronEntry → Job
job_of_entry cron entry = job_for cron.context CRON_QUEUE false (minute_of cron) (commands entry.command)

-- the jobs of the entries that are due at the minute, in the order of the entries
pub record AreDueJobs (cron : Cron) (jobs : List Job) : Type 0 where
  pub civil : CivilMinute
  pub shown : IsCivilTime cron.zone (pos (60 * minute_of cron)) civil
  pub are : jobs ≡ map (job_of_entry cron) (filter (λ entry. is_entry_due entry civil) cron.entries)

-- the steps that submit the jobs after a last number: for each the next number is drawn, and it is accepted under that
abbrev pub submissions : ℕ → List Job → List Step
submissions last [] = []
submissions last (job ∷ later) = Draw ∷ Accept (last + 1) job ∷ submissions (last + 1) later

-- the numbers after a last one, as many
abbrev pub next_numbers : ℕ → ℕ → List ℕ
next_numbers last zero = []
next_numbers last (suc count) = (last + 1) ∷ next_numbers (last + 1) count

-- the mark is of a minute before this one, or there is none
abbrev pub IsMarkedBefore : ℕ → Option ℕ → Type 0
IsMarkedBefore minute None = Unit {0}
IsMarkedBefore minute (Some marked) = marked < minute

-- The files show the table, and their mark is of a minute before that of the session: these jobs are to be submitted.
pub record AreToSubmit (cron : Cron) (files : Files) (table : JobTable) (jobs : List Job) : Type 0 where
  pub shown : Shows files table
  pub marked : Option ℕ
  pub mark : IsMark (finite.get files mark_file) marked
  pub before : IsMarkedBefore (minute_of cron) marked
  pub jobs_are : AreDueJobs cron jobs

-- The files show a table, and their mark is of the minute of the session or of a later one: there is nothing to do.
pub record IsMarkedAlready (cron : Cron) (files : Files) : Type 0 where
  pub table : JobTable
  pub shown : Shows files table
  pub marked : ℕ
  pub mark : IsMark (finite.get files mark_file) (Some marked)
  pub since : minute_of cron ≤ marked

-- there is room for so many jobs more, and a number for each
pub record HasRoomFor (table : JobTable) (count : ℕ) : Type 0 where
  pub room : live_count table + count ≤ MAX_LIVE
  pub numbers : table.last + count ≤ LAST_NUMBER

-- there is no room for all jobs that are to be submitted
pub record AreTooManyJobs (cron : Cron) (files : Files) : Type 0 where
  pub table : JobTable
  pub jobs : List Job
  pub are : AreToSubmit cron files table jobs
  pub many : MAX_LIVE < live_count table + length jobs

-- there is room for them, and no number for each
pub record LackNumbers (cron : Cron) (files : Files) : Type 0 where
  pub table : JobTable
  pub jobs : List Job
  pub are : AreToSubmit cron files table jobs
  pub room : live_count table + length jobs ≤ MAX_LIVE
  pub few : LAST_NUMBER < table.last + length jobs
