-- What holds of every directory.
use Rattle.std.specs.Prelude.{◌≡◌, [], ◌∷◌, ℕ, ℤ, true, false, List, Option, Result, Ok, Err, Contains}
use Rattle.std.specs.FinMap as map
use Rattle.host_calls.specs.declared.damage.Damage.{Damage}
use Rattle.host_calls.specs.Directory.{Files}
use Rattle.spool_faults.specs.Faults.{faults_of}
use Rattle.spool_faults.specs.Salvaged.{loses_marks_of, marks_of_salvage, salvaged}
use Rattle.spool_faults.specs.Salvages.{IsSalvageOf}
use Rattle.spool_model.specs.JobTable.{IsPending, JobTable}
use Rattle.spool_shows.specs.Shown.{Shows, shown_by}
use Rattle.start_journal.specs.declared.mark.Mark.TheVariants.{Started}
use Rattle.start_journal.specs.Journals.{are_sound, journal_file}
use Rattle.start_journal.specs.Marks.{has_mark_of}
use Rattle.start_journal.specs.Taken.{marks_taken}

-- the value, or the first fault
abbrev pub unless_faulty : {X : Type 0} → List Damage → X → Result X Damage
unless_faulty [] value = Ok value
unless_faulty (fault ∷ later) value = Err fault

-- A directory shows its first fault, and where it has none the table that is saved of it.
abbrev pub DamageIsTheFirstFault : Type 0
DamageIsTheFirstFault = (files : Files) → shown_by files ≡ unless_faulty (faults_of files) (salvaged files)

-- no number that a mark of the journal starts is pending in the table that is saved
abbrev pub StartsAreNotPending : Type 0
StartsAreNotPending = (files : Files) (number queue : ℕ) (second : ℤ) →
    Contains (marks_taken (map.get files journal_file)) (Started number queue second) → ¬ (IsPending (salvaged files) number)

-- where a mark may be lost, no job that no mark names is pending in the table that is saved: it may have run
abbrev pub LostMarksLeaveNoJobPending : Type 0
LostMarksLeaveNoJobPending = (files : Files) (number : ℕ) →
    loses_marks_of files ≡ true → has_mark_of number (marks_taken (map.get files journal_file)) ≡ false
    → ¬ (IsPending (salvaged files) number)

-- The directory has no fault exactly where it shows a table, and that table is then the one that is saved.
pub record IsSavedWhole (files : Files) : Type 0 where
  pub shown : faults_of files ≡ [] → Shows files (salvaged files)
  pub none : (table : JobTable) → Shows files table → faults_of files ≡ []
  pub saved : (table : JobTable) → Shows files table → table ≡ salvaged files

-- so it is with every directory
abbrev pub FaultlessDirectoriesAreSavedWhole : Type 0
FaultlessDirectoriesAreSavedWhole = (files : Files) → IsSavedWhole files

-- the marks that are taken of a journal, whatever its faults, are legal, and each of them can be written
abbrev pub TakenMarksAreSound : Type 0
TakenMarksAreSound = (content : Option (List ℕ)) → are_sound (marks_taken content) ≡ true

-- the marks that are saved, those that are added with them, are legal, and each of them can be written
abbrev pub SalvagedMarksAreSound : Type 0
SalvagedMarksAreSound = (files : Files) → are_sound (marks_of_salvage files) ≡ true

-- a directory that was written from what is saved of another shows the table that is saved
abbrev pub SalvagesShowWhatIsTaken : Type 0
SalvagesShowWhatIsTaken = (files salvage : Files) → IsSalvageOf files salvage → Shows salvage (salvaged files)

-- it has no fault
abbrev pub SalvagesHaveNoFault : Type 0
SalvagesHaveNoFault = (files salvage : Files) → IsSalvageOf files salvage → faults_of salvage ≡ []

-- and the same table is saved of it
abbrev pub SalvagesAreSavedAlike : Type 0
SalvagesAreSavedAlike = (files salvage : Files) → IsSalvageOf files salvage → salvaged salvage ≡ salvaged files
