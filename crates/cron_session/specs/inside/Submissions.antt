-- Jobs that are submitted one after another (own): how far that came, and what it leaves.
use Rattle.std.specs.Prelude.{◌≡◌, ◌≤◌, ◌+◌, ◌++◌, ℕ, Bool, true, List, Result, Ok, Err, IfErr, IfOk, length}
use Rattle.host_calls.specs.Directory.{Files, IsImage}
use Rattle.host_calls.specs.Session.{CallsInside, Session}
use Rattle.host_calls.specs.World.{World}
use Rattle.spool_model.specs.declared.job.Job.{Job}
use Rattle.spool_model.specs.JobTable.{JobTable}
use Rattle.spool_model.specs.Steps.{after_steps, submission}
use Rattle.host_calls.specs.declared.store_fault.StoreFault.{StoreFault}
use Rattle.host_calls.specs.declared.store_fault.StoreFault.TheVariants.{FileFault}
use Rattle.host_calls.specs.StoreFaults.{IsOfStep}
use Rattle.spool_store.specs.Submission.{kept_after_submission}
use Rattle.step_runs.specs.Calls.{IsSteppingOn, KeepsOthers, StoreCall}
use Rattle.step_runs.specs.Current.{EachShows, IsCurrent, Kept}
use Rattle.step_runs.specs.Made.{ShowsAfterPrefix}
use Rattle.step_runs.specs.WithoutScripts.{job_without_script}
use Rattle.whole_file.specs.Others.{ChangesFiles}
use Rattle.cron_session.specs.Steps.{next_numbers, submissions}

-- The job was submitted under the next number, or a fault of a file or an out-of-memory error is answered.
pub record SubmitsOne (tells : Bool) (before after : Session) (old new : World) (kept : Kept) (job : Job)
    (result : Result (Kept × ℕ) StoreFault) : Type 0 where
  pub inside : CallsInside FileFault before after result
  pub faults : IfErr result IsOfStep
  pub number : IfOk result (λ stored. stored.1 ≡ kept.table.last + 1)
  pub table_is : IfOk result (λ stored. stored.0.table ≡ after_steps kept.table (submission kept.table (job_without_script job)))
  pub files : tells ≡ true → (table : JobTable) → IsCurrent kept old.now.directory table →
      StoreCall table (submission table job) old new (kept_after_submission result)

-- The jobs that were submitted, the one at which that was stopped, if there is one, and those after it.
pub record CronPart : Type 0 where
  pub made : List Job
  pub next : List Job
  pub later : List Job

-- all of the jobs were submitted, or those that were made, and it was stopped there or at the next one
pub record IsPartOf (jobs : List Job) (part : CronPart) (result : Result (Unit {0}) StoreFault) : Type 0 where
  pub are : jobs ≡ part.made ++ (part.next ++ part.later)
  pub few : length part.next ≤ 1
  pub all : IfOk result (λ done. part.made ≡ jobs)

-- what each image of the end shows: the table after all that was made, and where it was stopped after a prefix of the
-- next submission too
abbrev pub SubmissionsEnd : JobTable → CronPart → World → Result (Unit {0}) StoreFault → Type 0
SubmissionsEnd table part new (Ok done) = EachShows new.now.directory (after_steps table (submissions table.last part.made))
SubmissionsEnd table part new (Err fault) =
    (image : Files) → IsImage new.now.directory image →
    ShowsAfterPrefix table (submissions table.last part.made) (submissions (table.last + length part.made) part.next) image

-- what the submissions leave
pub record SubmissionsLeave (table : JobTable) (jobs : List Job) (part : CronPart) (old new : World)
    (result : Result (Unit {0}) StoreFault) : Type 0 where
  pub files : ChangesFiles (IsSteppingOn table (submissions table.last jobs) old.now.directory) old new
  pub ends : SubmissionsEnd table part new result
  pub others : IfOk result (λ done. KeepsOthers old.now.directory new.now.directory)

-- The jobs were submitted, or the first of them, and the numbers of these were written down.
pub record SubmitsAll (tells : Bool) (before after : Session) (old new : World) (kept : Kept) (jobs : List Job) (was is : List ℕ)
    (result : Result (Unit {0}) StoreFault) : Type 0 where
  pub inside : CallsInside FileFault before after result
  pub faults : IfErr result IsOfStep
  pub part : CronPart
  pub is_part : IsPartOf jobs part result
  pub written : is ≡ was ++ next_numbers kept.table.last (length part.made)
  pub leaves : tells ≡ true → (table : JobTable) → IsCurrent kept old.now.directory table →
      SubmissionsLeave table jobs part old new result
