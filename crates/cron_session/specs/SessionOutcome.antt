-- What a session of a crontab leaves, by its end (own).
use Rattle.std.specs.Prelude.{◌≡◌, ◌⊎◌, ◌≤◌, ◌+◌, ◌++◌, [], ℕ, Bool, true, List, Some, Err, length}
use Rattle.std.specs.FinMap as finite
use Rattle.host_calls.specs.declared.damage.Damage.{Damage}
use Rattle.host_calls.specs.Causes.{Rose}
use Rattle.host_calls.specs.Directory.{Files, Directory, IsImage, reading_of}
use Rattle.host_calls.specs.Session.{IsLeft, Session}
use Rattle.host_calls.specs.World.{World, reading}
use Rattle.whole_file.specs.Others.{ChangesFiles, IsEither, LeavesOthers}
use Rattle.spool_model.specs.declared.job.Job.{Job}
use Rattle.spool_model.specs.declared.step.Step.{Step}
use Rattle.spool_model.specs.JobTable.{JobTable}
use Rattle.spool_model.specs.Steps.{AreLegal, after_steps}
use Rattle.spool_shows.specs.Shown.{Shows, shown_by}
use Rattle.step_runs.specs.Calls.{KeepsOthers}
use Rattle.step_runs.specs.Current.{IsSpoolName}
use Rattle.step_runs.specs.Made.{ShowsAfterPrefix}
use Rattle.cron_session.specs.Mark.{IsMarkDamage, cron_mark_text}
use Rattle.cron_session.specs.MarkNames.{mark_file, mark_temp}
use Rattle.cron_session.specs.declared.report.CronEnd.{CronEnd}
use Rattle.cron_session.specs.declared.report.CronEnd.TheVariants.{Done, Busy, FileFault, Damaged, QueueFull, NumbersUsedUp, Memory}
use Rattle.cron_session.specs.Steps.{AreToSubmit, AreTooManyJobs, Cron, HasRoomFor, IsMarkedAlready, LackNumbers, minute_of, next_numbers, submissions}

-- a host at one moment
pub record CronAt : Type 0 where
  pub session : Session
  pub world : World

-- a name of the store's, or of the mark that is being made
abbrev pub IsSpoolOrTemp : List ℕ → Type 0
IsSpoolOrTemp name = IsSpoolName name ⊎ (name ≡ mark_temp)

-- a name under which a session changes something
abbrev pub IsCronName : List ℕ → Type 0
IsCronName name = IsSpoolName name ⊎ IsEither mark_temp mark_file name

-- The image shows what an image of the start shows, and has the mark and the other files of that one.
pub record IsUnmarked (start : Directory) (image : Files) : Type 0 where
  pub alone : LeavesOthers IsSpoolOrTemp start image
  pub same : shown_by image ≡ shown_by alone.from

-- The image has the mark of the minute, and shows the table after these steps and a prefix of the next ones.
pub record HasCome (minute : ℕ) (table : JobTable) (steps next : List Step) (image : Files) : Type 0 where
  pub marked : finite.get image mark_file ≡ Some (cron_mark_text minute)
  pub shows : ShowsAfterPrefix table steps next image

-- The image has the mark of the minute, shows the table after a prefix of the steps, and has the other files of an image
-- of the start.
pub record HasCronMark (minute : ℕ) (table : JobTable) (steps : List Step) (start : Directory) (image : Files) : Type 0 where
  pub come : HasCome minute table [] steps image
  pub others : LeavesOthers IsCronName start image

-- what an image of each moment of a session is
abbrev pub IsOnTheMark : ℕ → JobTable → List Step → Directory → Files → Type 0
IsOnTheMark minute table steps start image = IsUnmarked start image ⊎ HasCronMark minute table steps start image

-- the names of other files read as before
abbrev pub KeepsOtherFiles : Directory → Directory → Type 0
KeepsOtherFiles old new =
    (name : List ℕ) → ¬ (IsCronName name) → finite.get (reading_of new) name ≡ finite.get (reading_of old) name

-- Nothing was submitted, and the mark stays: each image is unmarked.
pub record IsCronIdle (numbers : List ℕ) (old new : World) : Type 0 where
  pub none : numbers ≡ []
  pub unmarked : ChangesFiles (IsUnmarked old.now.directory) old new

-- The mark was there already: there was nothing to do. It and all other files read as before.
pub record HasNothingToDo (cron : Cron) (numbers : List ℕ) (old new : World) : Type 0 where
  pub already : IsMarkedAlready cron (reading old)
  pub idle : IsCronIdle numbers old new
  pub others : KeepsOthers old.now.directory new.now.directory

-- There was room for the jobs that were to be submitted, and each image of each moment is on the mark.
pub record Submits (cron : Cron) (table : JobTable) (jobs : List Job) (old new : World) : Type 0 where
  pub are : AreToSubmit cron (reading old) table jobs
  pub room : HasRoomFor table (length jobs)
  pub legal : AreLegal table (submissions table.last jobs)
  pub files : ChangesFiles (IsOnTheMark (minute_of cron) table (submissions table.last jobs) old.now.directory) old new

-- each image of the directory has the mark of the minute, and shows the table after all of the steps
abbrev pub EachIsWhole : ℕ → JobTable → List Step → Directory → Type 0
EachIsWhole minute table steps directory =
    (image : Files) → IsImage directory image →
    (finite.get image mark_file ≡ Some (cron_mark_text minute)) × Shows image (after_steps table steps)

-- All jobs were submitted, under the numbers after the last one.
pub record IsCronDone (cron : Cron) (numbers : List ℕ) (old new : World) : Type 0 where
  pub table : JobTable
  pub jobs : List Job
  pub submits : Submits cron table jobs old new
  pub holds : EachIsWhole (minute_of cron) table (submissions table.last jobs) new.now.directory
  pub others : KeepsOtherFiles old.now.directory new.now.directory
  pub numbers_are : numbers ≡ next_numbers table.last (length jobs)

-- Some jobs were submitted, under the numbers after the last one, and it was stopped there or at the next job: each image
-- has the mark, and shows the table after the steps of these jobs and a prefix of the next one's. Only where no
-- job was begun, an image may be unmarked, and shows the table.
pub record IsCronStopped (cron : Cron) (numbers : List ℕ) (old new : World) : Type 0 where
  pub table : JobTable
  pub made : List Job
  pub next : List Job
  pub later : List Job
  pub few : length next ≤ 1
  pub submits : Submits cron table (made ++ (next ++ later)) old new
  pub ends : (image : Files) → IsImage new.now.directory image →
      ((made ++ next ≡ []) × IsUnmarked old.now.directory image × Shows image table)
      ⊎ HasCome (minute_of cron) table (submissions table.last made) (submissions (table.last + length made) next) image
  pub numbers_are : numbers ≡ next_numbers table.last (length made)

-- the store is damaged, or else the mark
abbrev pub IsSpoolOrMarkDamage : Files → Damage → Type 0
IsSpoolOrMarkDamage files damage =
    (shown_by files ≡ Err damage)
    ⊎ ((table : JobTable) × Shows files table × IsMarkDamage (finite.get files mark_file) damage)

-- what a session leaves, by its end
abbrev pub CronLeaves : Cron → List ℕ → World → World → CronEnd → Type 0
CronLeaves cron numbers old new Done = HasNothingToDo cron numbers old new ⊎ IsCronDone cron numbers old new
CronLeaves cron numbers old new Busy = (numbers ≡ []) × (new ≡ old)
CronLeaves cron numbers old new (Damaged damage) = IsSpoolOrMarkDamage (reading old) damage × IsCronIdle numbers old new
CronLeaves cron numbers old new QueueFull = AreTooManyJobs cron (reading old) × IsCronIdle numbers old new
CronLeaves cron numbers old new NumbersUsedUp = LackNumbers cron (reading old) × IsCronIdle numbers old new
CronLeaves cron numbers old new FileFault = IsCronIdle numbers old new ⊎ IsCronStopped cron numbers old new
CronLeaves cron numbers old new Memory = IsCronIdle numbers old new ⊎ IsCronStopped cron numbers old new

-- where no job was begun, no number was accepted
abbrev pub IfNoJobBegun : CronEnd → Type 0 → Type 0
IfNoJobBegun Busy none = none
IfNoJobBegun (Damaged damage) none = none
IfNoJobBegun QueueFull none = none
IfNoJobBegun NumbersUsedUp none = none
IfNoJobBegun Done none = Unit {0}
IfNoJobBegun FileFault none = Unit {0}
IfNoJobBegun Memory none = Unit {0}

-- A session of a crontab. Of every host: it is left, no child came or went, and why it ended so. Of a host that tells its
-- files and is alone: what it leaves.
pub record CronsTo (tells alone : Bool) (cron : Cron) (old new : CronAt) (end : CronEnd) (numbers : List ℕ) : Type 0 where
  pub left : IsLeft old.session new.session
  pub busy : end ≡ Busy → Rose old.session.taken new.session.taken
  pub fault : end ≡ FileFault → Rose old.session.file_faults new.session.file_faults
  pub unread : IfNoJobBegun end (numbers ≡ [])
  pub leaves : tells ≡ true → alone ≡ true → CronLeaves cron numbers old.world new.world end
