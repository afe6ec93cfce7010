-- What is due at a minute (own).
use Rattle.std.specs.Prelude.{◌≡◌, ◌*◌, ℕ, pos, List, false, map}
use Rattle.std.specs.List.{filter}
use Rattle.civil_minute.specs.Civil.{IsCivilTime}
use Rattle.civil_minute.specs.declared.zone.Zone.{Zone}
use Rattle.civil_minute.specs.declared.civil.CivilMinute.{CivilMinute}
use Rattle.cron_minutes.specs.Commands.{commands}
use Rattle.cron_minutes.specs.Due.{is_entry_due}
use Rattle.cron_text.specs.declared.entry.CronEntry.{CronEntry}
use Rattle.job_script.specs.declared.context.Context.{Context}
use Rattle.spool_model.specs.declared.job.Job.{Job}
use Rattle.job_script.specs.JobText.{job_for}
use Rattle.cron_session.specs.declared.session.TheConstants.{CRON_QUEUE}

-- the commands of the entries that are due at the civil minute, in their order
abbrev pub due_commands : List CronEntry → CivilMinute → List (List ℕ)
due_commands entries civil = map (λ entry. commands entry.command) (filter (λ entry. is_entry_due entry civil) entries)

-- the job of these commands
abbrev pub cron_job : Context → ℕ → List ℕ → Job
cron_job context minute commands = job_for context CRON_QUEUE false minute commands

-- the jobs of all of them
abbrev pub cron_jobs : Context → ℕ → List (List ℕ) → List Job
cron_jobs context minute due = map (cron_job context minute) due

-- the commands are those that are due at what a clock in the zone shows at the minute
pub record AreDueAt (entries : List CronEntry) (minute : ℕ) (zone : Zone) (due : List (List ℕ)) : Type 0 where
  pub civil : CivilMinute
  pub shown : IsCivilTime zone (pos (60 * minute)) civil
  pub are : due ≡ due_commands entries civil
