-- What is done within the session, and what is put after it (own).
use Rattle.std.specs.Prelude.{◌≡◌, ◌≤◌, ◌++◌, ℕ, Bool, true, List, Option, Result, Ok, Err, length}
use Rattle.at_account.specs.declared.record.AccountRecord.{AccountRecord}
use Rattle.at_account.specs.declared.account.TheConstants.{MAX_RECORDS}
use Rattle.at_account.specs.ObservedTable.{AreNews, WouldPass}
use Rattle.tool_output.specs.declared.command_error.CommandError.{CommandError}
use Rattle.tool_output.specs.Sinks.{SinkAt}
use Rattle.host_calls.specs.World.{World, reading}
use Rattle.listing_text.specs.declared.cause.Cause.{Cause}
use Rattle.listing_text.specs.declared.cause.Cause.TheVariants.{Refused, FileFault, Memory, Damaged}
use Rattle.listing_text.specs.declared.refusal.Refusal.TheVariants.{AccountsFull}
use Rattle.spool_model.specs.JobTable.{JobTable}
use Rattle.whole_file.specs.Others.{ChangesFiles}
use Rattle.at_account.specs.AccountOutcome.{IsAccounted, IsAccounting, IsSpoolOrAccountDamage, IsLeftAlone, AccountLeaves, AccountRefusalLeaves}
use Rattle.at_account.specs.UpdatedRecords.{GivesRecords, IsAccountDamage}

-- what may stop the work: a fault of a file, an out-of-memory error, damage, or that there would be too many records
abbrev pub IsAccountingCause : Cause → Type 0
IsAccountingCause FileFault = Unit {0}
IsAccountingCause Memory = Unit {0}
IsAccountingCause (Damaged damage) = Unit {0}
IsAccountingCause (Refused AccountsFull) = Unit {0}
IsAccountingCause _ = ⊥

-- the records are those of the content with what is new of the table, not too many
pub record AreUpdatedContent (table : JobTable) (content : Option (List ℕ)) (records : List AccountRecord) : Type 0 where
  pub read : List AccountRecord
  pub new_records : List AccountRecord
  pub gives : GivesRecords content read
  pub are : AreNews read table new_records
  pub all : records ≡ read ++ new_records
  pub few : length records ≤ MAX_RECORDS

-- there would be too many
pub record WouldBeTooMany (table : JobTable) (content : Option (List ℕ)) : Type 0 where
  pub read : List AccountRecord
  pub gives : GivesRecords content read
  pub many : WouldPass read table

-- why nothing was counted
abbrev pub StopsCounting : JobTable → Option (List ℕ) → Cause → Type 0
StopsCounting table content (Damaged damage) = IsAccountDamage content damage
StopsCounting table content (Refused AccountsFull) = WouldBeTooMany table content
StopsCounting table content FileFault = Unit {0}
StopsCounting table content Memory = Unit {0}
StopsCounting table content _ = ⊥

abbrev pub Counts : JobTable → Option (List ℕ) → Result (List AccountRecord) CommandError → Type 0
Counts table content (Ok records) = AreUpdatedContent table content records
Counts table content (Err stopped) = StopsCounting table content stopped.cause

-- what is left by the cause that stopped the work
abbrev pub StopsInside : World → World → Cause → Type 0
StopsInside old new (Damaged damage) = IsSpoolOrAccountDamage (reading old) damage × IsLeftAlone old new
StopsInside old new (Refused refusal) = AccountRefusalLeaves refusal old new
StopsInside old new FileFault = Unit {0}
StopsInside old new Memory = Unit {0}
StopsInside old new _ = ⊥

-- what is left by the answer: the text that is to be shown of what was counted
abbrev pub EndsInside : Bool → World → World → Result (List ℕ) CommandError → Type 0
EndsInside show old new (Ok text) = IsAccounted show old new text
EndsInside show old new (Err stopped) = StopsInside old new stopped.cause

-- what each image has and what is left, where the host exposes its files and nobody else changes them
pub record Accounts (files alone output show : Bool) (old new : World) (was now : SinkAt) (cause : Cause) : Type 0 where
  pub images : files ≡ true → alone ≡ true → ChangesFiles (IsAccounting old.now.directory) old new
  pub leaves : files ≡ true → alone ≡ true → AccountLeaves show output old new was now cause
