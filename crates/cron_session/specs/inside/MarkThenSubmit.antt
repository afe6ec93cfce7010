-- The minute is marked, and then its jobs are submitted (own).
use Rattle.std.specs.Prelude.{◌≡◌, ◌⊎◌, ◌+◌, ◌++◌, [], ℕ, Bool, true, List, Result, Ok, Err, IfErr, length}
use Rattle.host_calls.specs.Directory.{Files, IsImage}
use Rattle.host_calls.specs.Session.{CallsInside, Session}
use Rattle.host_calls.specs.World.{World}
use Rattle.spool_model.specs.declared.job.Job.{Job}
use Rattle.spool_model.specs.JobTable.{JobTable}
use Rattle.spool_shows.specs.Shown.{Shows}
use Rattle.host_calls.specs.declared.store_fault.StoreFault.{StoreFault}
use Rattle.host_calls.specs.declared.store_fault.StoreFault.TheVariants.{FileFault}
use Rattle.host_calls.specs.StoreFaults.{IsOfStep}
use Rattle.step_runs.specs.Current.{IsCurrent, Kept}
use Rattle.whole_file.specs.Others.{ChangesFiles}
use Rattle.cron_session.specs.MarkNames.{mark_temp}
use Rattle.cron_session.specs.SessionOutcome.{EachIsWhole, HasCome, IsOnTheMark, IsUnmarked, KeepsOtherFiles}
use Rattle.cron_session.specs.Steps.{next_numbers, submissions}
use Rattle.whole_file.specs.TempFiles.{IsDurableAt}
use Rattle.cron_session.specs.inside.Submissions.{IsPartOf, CronPart}

-- where it was stopped, an image of the end is unmarked, where no job was begun, and shows the table, or has the mark and
-- shows the table after what was made, and a prefix of the next submission
abbrev pub EachHasCome : ℕ → JobTable → CronPart → World → World → Type 0
EachHasCome minute table part old new =
    (image : Files) → IsImage new.now.directory image →
    ((part.made ++ part.next ≡ []) × IsUnmarked old.now.directory image × Shows image table)
    ⊎ HasCome minute table (submissions table.last part.made) (submissions (table.last + length part.made) part.next) image

-- what each image of the end is, by the answer
abbrev pub MarkingEnds : ℕ → JobTable → List Job → CronPart → World → World → Result (Unit {0}) StoreFault → Type 0
MarkingEnds minute table jobs part old new (Ok done) =
    EachIsWhole minute table (submissions table.last jobs) new.now.directory × KeepsOtherFiles old.now.directory new.now.directory
MarkingEnds minute table jobs part old new (Err fault) = EachHasCome minute table part old new

-- what is left of the mark and the table
pub record MarkingLeaves (minute : ℕ) (table : JobTable) (jobs : List Job) (part : CronPart) (old new : World)
    (result : Result (Unit {0}) StoreFault) : Type 0 where
  pub files : ChangesFiles (IsOnTheMark minute table (submissions table.last jobs) old.now.directory) old new
  pub ends : MarkingEnds minute table jobs part old new result

-- The minute was marked and its jobs submitted, or the first of them, and the numbers of these were written down.
pub record MarksAndSubmits (tells : Bool) (before after : Session) (old new : World) (kept : Kept) (minute : ℕ) (jobs : List Job)
    (was is : List ℕ) (result : Result (Unit {0}) StoreFault) : Type 0 where
  pub inside : CallsInside FileFault before after result
  pub faults : IfErr result IsOfStep
  pub part : CronPart
  pub is_part : IsPartOf jobs part result
  pub written : is ≡ was ++ next_numbers kept.table.last (length part.made)
  pub leaves : tells ≡ true → (table : JobTable) → IsCurrent kept old.now.directory table → IsDurableAt mark_temp old.now.directory →
      MarkingLeaves minute table jobs part old new result
