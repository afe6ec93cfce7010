-- The session of a command (own): what was found when the store was recovered, and what is left by the work after it.
use Rattle.std.specs.Prelude.{◌≡◌, ◌⊎◌, [], ℕ, Bool, true, false, List, Option, Ok}
use Rattle.access_lists.specs.Access.{may_use}
use Rattle.std.specs.FinMap as finite
use Rattle.host_calls.specs.declared.damage.Damage.{Damage}
use Rattle.host_calls.specs.Directory.{Files}
use Rattle.host_calls.specs.World.{World, reading}
use Rattle.step_runs.specs.Attempts.{IsUnbegun}
use Rattle.step_runs.specs.WithoutScripts.{without_scripts}
use Rattle.step_runs.specs.Calls.{KeepsOthers, ShowsAsBefore}
use Rattle.step_runs.specs.Current.{IsCurrent, Kept}
use Rattle.step_runs.specs.Made.{AreMade}
use Rattle.step_runs.specs.Runs.{Runs}
use Rattle.listing_text.specs.declared.cause.Cause.{Cause}
use Rattle.listing_text.specs.declared.cause.Cause.TheVariants.{Done, Refused, FileFault, OutputFault, Memory, Damaged}
use Rattle.listing_text.specs.declared.refusal.Refusal.TheVariants.{NotAllowed}
use Rattle.spool_model.specs.declared.step.Step.{Step}
use Rattle.spool_model.specs.JobTable.{JobTable}
use Rattle.spool_model.specs.Steps.{AreLegal}
use Rattle.spool_shows.specs.Shown.{shown_by}
use Rattle.whole_file.specs.Others.{ChangesFiles}
use Rattle.command_rules.specs.Checks.{check_of, is_earlier_check, of_spool}
use Rattle.command_rules.specs.Found.{allow_file, deny_file}
use Rattle.command_rules.specs.Spool.{FindsDamage}

-- a table as a store keeps it: without its scripts, or, where no files are exposed, just as it is
abbrev pub IsKeptOf : JobTable → JobTable → Type 0
IsKeptOf kept table = (kept ≡ without_scripts table) ⊎ (kept ≡ table)

-- the lists of users are those of the files
pub record AreListsIn (files : Files) (allow deny : Option (List ℕ)) : Type 0 where
  pub allow_is : allow ≡ finite.get files allow_file
  pub deny_is : deny ≡ finite.get files deny_file

-- A recovery after which the directory shows the table that its reading showed.
pub record IsRecovery (old new : World) (table : JobTable) (kept : Kept) : Type 0 where
  pub shown : shown_by (reading old) ≡ Ok table
  pub changes : ChangesFiles (ShowsAsBefore old.now.directory) old new
  pub others : KeepsOthers old.now.directory new.now.directory
  pub current : IsCurrent kept new.now.directory table

-- The lists permit the user, and the store was recovered, whose table this is.
pub record IsStoreOpened (tells : Bool) (user : List ℕ) (old new : World) (kept : Kept) : Type 0 where
  pub allow : Option (List ℕ)
  pub deny : Option (List ℕ)
  pub table : JobTable
  pub permits : may_use user allow deny ≡ true
  pub keeps : IsKeptOf kept.table table
  pub lists : tells ≡ true → AreListsIn (reading old) allow deny
  pub recovered : tells ≡ true → IsRecovery old new table kept

-- Why a session has no store: the lists could not be read, for a file fault or an out-of-memory error; they refuse the user;
-- or they permit the user, and the recovery found a fault, no memory or a damage. Nothing is settled for a user whom they
-- refuse.
pub data IsNotOpened (tells : Bool) (user : List ℕ) (old new : World) : Cause → Type 0 where
  lists_fault : (tells ≡ true → new ≡ old) → IsNotOpened tells user old new FileFault
  lists_lack_memory : (tells ≡ true → new ≡ old) → IsNotOpened tells user old new Memory
  refuses : (allow deny : Option (List ℕ)) → may_use user allow deny ≡ false
      → (tells ≡ true → AreListsIn (reading old) allow deny) → (tells ≡ true → new ≡ old)
      → IsNotOpened tells user old new (Refused NotAllowed)
  faults : (allow deny : Option (List ℕ)) → may_use user allow deny ≡ true
      → (tells ≡ true → AreListsIn (reading old) allow deny) → (tells ≡ true → IsUnbegun old new)
      → IsNotOpened tells user old new FileFault
  lacks_memory : (allow deny : Option (List ℕ)) → may_use user allow deny ≡ true
      → (tells ≡ true → AreListsIn (reading old) allow deny) → (tells ≡ true → IsUnbegun old new)
      → IsNotOpened tells user old new Memory
  is_damaged : (damage : Damage) (allow deny : Option (List ℕ)) → may_use user allow deny ≡ true
      → (tells ≡ true → AreListsIn (reading old) allow deny) → (tells ≡ true → FindsDamage old new damage)
      → IsNotOpened tells user old new (Damaged damage)

-- what the work after a recovery leaves that may be stopped: all steps or a prefix of them, or nothing was begun
pub record IsWorkedOn (AreSteps : JobTable → List Step → Type 0) (table : JobTable) (old new : World) : Type 0 where
  pub steps : List Step
  pub are : AreSteps table steps
  pub legal : AreLegal table steps
  pub run : Runs table steps old new

-- the work was done: all of the steps were made
pub record IsWorkedOut (AreSteps : JobTable → List Step → Type 0) (table : JobTable) (old new : World) : Type 0 where
  pub steps : List Step
  pub kept : Kept
  pub are : AreSteps table steps
  pub made : AreMade table steps [] [] kept old new

-- What the work after a recovery leaves, by its cause. A refusal there comes of the table.
abbrev pub CommandWorks : (JobTable → List Step → Type 0) → JobTable → World → World → Cause → Type 0
CommandWorks AreSteps table old new Done = IsWorkedOut AreSteps table old new
CommandWorks AreSteps table old new OutputFault = IsWorkedOut AreSteps table old new
CommandWorks AreSteps table old new FileFault = (new ≡ old) ⊎ IsWorkedOn AreSteps table old new
CommandWorks AreSteps table old new Memory = (new ≡ old) ⊎ IsWorkedOn AreSteps table old new
CommandWorks AreSteps table old new (Refused refusal) = (is_earlier_check of_spool (check_of refusal) ≡ true) × (new ≡ old)
CommandWorks AreSteps table old new _ = ⊥
