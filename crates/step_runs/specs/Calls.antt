-- What a call of the store leaves (own): the table before it, or after a prefix of its steps.
use Rattle.std.specs.Prelude.{◌≡◌, ℕ, List, Result, IfOk}
use Rattle.std.specs.FinMap as map
use Rattle.host_calls.specs.Directory.{Files, Directory, IsImage, reading_of}
use Rattle.host_calls.specs.World.{World}
use Rattle.spool_model.specs.declared.step.Step.{Step}
use Rattle.spool_model.specs.JobTable.{JobTable}
use Rattle.spool_model.specs.Steps.{IsPrefix, after_steps}
use Rattle.whole_file.specs.Others.{ChangesFiles, LeavesOthers}
use Rattle.spool_shows.specs.Shown.{Shows, shown_by}
use Rattle.step_runs.specs.Current.{IsCurrent, IsSpoolName, Kept}

-- the image shows the table after a prefix of the steps, and other files are left alone
pub record IsSteppingOn (table : JobTable) (steps : List Step) (start : Directory) (image : Files) : Type 0 where
  pub prefix : List Step
  pub is_prefix : IsPrefix prefix steps
  pub shows : Shows image (after_steps table prefix)
  pub others : LeavesOthers IsSpoolName start image

-- the names of other files read as before
abbrev pub KeepsOthers : Directory → Directory → Type 0
KeepsOthers old new =
    (name : List ℕ) → ¬ (IsSpoolName name) → map.get (reading_of new) name ≡ map.get (reading_of old) name

-- A call of the store that makes steps: a crash at each of its moments leaves the table after a prefix of
-- them, nothing is started, and what is handed back on Ok is current after all of them.
pub record StoreCall {E : Type 0} (table : JobTable) (steps : List Step) (old new : World) (result : Result Kept E) : Type 0 where
  pub files : ChangesFiles (IsSteppingOn table steps old.now.directory) old new
  pub current : IfOk result (λ kept. IsCurrent kept new.now.directory (after_steps table steps))
  pub others : IfOk result (λ kept. KeepsOthers old.now.directory new.now.directory)

-- the image shows what an image of the start shows, and has its other files
pub record ShowsAsBefore (start : Directory) (image : Files) : Type 0 where
  pub from : Files
  pub was : IsImage start from
  pub same : shown_by image ≡ shown_by from
  pub others : (name : List ℕ) → ¬ (IsSpoolName name) → map.get image name ≡ map.get from name
