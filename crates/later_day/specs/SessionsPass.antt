-- What a session of mail and one of a crontab do among the events of a day (own).
use Rattle.std.specs.Prelude.{◌≡◌, ◌≢◌, ◌++◌, [], ℕ, List, length}
use Rattle.host_calls.specs.Directory.{Files}
use Rattle.host_calls.specs.World.{World, reading}
use Rattle.spool_model.specs.declared.job.Job.{Job}
use Rattle.spool_model.specs.declared.step.Step.{Step}
use Rattle.spool_model.specs.JobTable.{JobTable}
use Rattle.headline.specs.Effects.{Crashed, Effect, Partial, Untouched, Whole}
use Rattle.later_day.specs.LaterEffects.{Beside, OfTable, TakesLaterEffect}
use Rattle.at_mail.specs.Once.{IsBesideMail}
use Rattle.cron_session.specs.declared.report.CronEnd.{CronEnd}
use Rattle.cron_session.specs.declared.report.CronEnd.TheVariants.{Done}
use Rattle.cron_session.specs.Minutes.{KeepsMark}
use Rattle.cron_session.specs.Steps.{AreToSubmit, Cron, IsMarkedAlready, next_numbers, submissions}

-- A session of mail goes on next to the table, and keeps the mark of the crontab.
pub record PassesMail (old new : World) : Type 0 where
  pub later : TakesLaterEffect Beside old new
  pub mark : KeepsMark old.now.directory new.now.directory

-- The steps submit the jobs that are to be submitted, on the table that the files show. The first of these jobs were
-- accepted, under the numbers after the last one.
pub record AreSubmissions (cron : Cron) (numbers : List ℕ) (files : Files) (table : JobTable) (steps : List Step) : Type 0 where
  pub made : List Job
  pub rest : List Job
  pub are : AreToSubmit cron files table (made ++ rest)
  pub steps_are : steps ≡ submissions table.last (made ++ rest)
  pub numbers_are : numbers ≡ next_numbers table.last (length made)

-- What a session of a crontab did to the table, by its end and the numbers that it accepted. Where it was done it made all
-- of its steps, or none where the minute was had already. Where it was stopped it made the first of them, or none.
abbrev pub IsCronEffect : Cron → CronEnd → List ℕ → Files → Effect → Type 0
IsCronEffect cron end numbers files Untouched = (numbers ≡ []) × (end ≡ Done → IsMarkedAlready cron files)
IsCronEffect cron end numbers files (Partial table steps) = (end ≢ Done) × AreSubmissions cron numbers files table steps
IsCronEffect cron end numbers files (Whole table steps) =
    (end ≡ Done) × (are : AreSubmissions cron numbers files table steps) × (are.rest ≡ [])
IsCronEffect cron end numbers files (Crashed image) = ⊥

-- A session of a crontab has an effect on the table by its own steps, and leaves the notes of mail alone.
pub record PassesCron (cron : Cron) (end : CronEnd) (numbers : List ℕ) (old new : World) : Type 0 where
  pub effect : Effect
  pub by_its_steps : IsCronEffect cron end numbers (reading old) effect
  pub later : TakesLaterEffect (OfTable effect) old new
  pub mail : IsBesideMail old new

-- The notes of mail and the mark of the crontab are left alone, and no notice is sent.
pub record PassesBeside (old new : World) : Type 0 where
  pub mail : IsBesideMail old new
  pub mark : KeepsMark old.now.directory new.now.directory
