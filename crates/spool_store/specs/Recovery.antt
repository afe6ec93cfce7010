-- What a recovery leaves, by its answer (own).
use Rattle.std.specs.Prelude.{◌≡◌, ℕ, List, Result, Ok, Err}
use Rattle.std.specs.FinMap as finite
use Rattle.host_calls.specs.Directory.{Files, Directory, IsImage, reading_of}
use Rattle.spool_model.specs.JobTable.{JobTable}
use Rattle.spool_shows.specs.OldForm.{HasNoNewFormName, ShowsOldForm}
use Rattle.spool_shows.specs.Shown.{shown_by}
use Rattle.step_runs.specs.Calls.{KeepsOthers}
use Rattle.step_runs.specs.Current.{IsCurrent, IsSpoolName, Kept}
use Rattle.host_calls.specs.declared.store_fault.StoreFault.{StoreFault}
use Rattle.host_calls.specs.declared.store_fault.StoreFault.TheVariants.{Damaged, FileFault, Memory}

-- The reading showed a table, and what is kept is current with it. Other files read as before, and are durable: each
-- image has them so.
pub record IsRecovered (old new : Directory) (kept : Kept) : Type 0 where
  pub table : JobTable
  pub shown : shown_by (reading_of old) ≡ Ok table
  pub current : IsCurrent kept new table
  pub others : KeepsOthers old new
  pub durable_others : (image : Files) → IsImage new image → (name : List ℕ) → ¬ (IsSpoolName name)
      → finite.get image name ≡ finite.get (reading_of new) name

-- where no file of the reading had a name of the new form, and it showed a table by the old form alone, what is kept
-- is current with that table
abbrev pub ShowsAsBeforeNewFormNames : Directory → Directory → Kept → Type 0
ShowsAsBeforeNewFormNames old new kept = (table : JobTable) → HasNoNewFormName (reading_of old) →
    ShowsOldForm (reading_of old) table → IsCurrent kept new table

-- the reading shows what it showed: the same table, or the same damage
abbrev pub ShowsTheSame : Directory → Directory → Type 0
ShowsTheSame old new = shown_by (reading_of new) ≡ shown_by (reading_of old)

-- what is left, by the answer: damage is answered where the reading shows it, and a recovery that failed has changed
-- nothing of what it shows
abbrev pub Recovered : Directory → Directory → Result Kept StoreFault → Type 0
Recovered old new (Ok kept) = IsRecovered old new kept
Recovered old new (Err (Damaged damage)) = shown_by (reading_of old) ≡ Err damage
Recovered old new (Err FileFault) = ShowsTheSame old new
Recovered old new (Err Memory) = ShowsTheSame old new
Recovered old new _ = ⊥
