-- The file of accounts, as it is read and replaced (own).
use Rattle.std.specs.Prelude.{◌≡◌, ◌⊎◌, ℕ, List, Option, Some, Result, Ok, Err}
use Rattle.std.specs.FinMap as finite
use Rattle.at_account.specs.declared.record.AccountRecord.{AccountRecord}
use Rattle.tool_output.specs.declared.command_error.CommandError.{CommandError}
use Rattle.host_calls.specs.Directory.{Files, Directory, IsImage, IsInNoImage, reading_of}
use Rattle.listing_text.specs.declared.cause.Cause.{Cause}
use Rattle.listing_text.specs.declared.cause.Cause.TheVariants.{FileFault, Memory, Damaged}
use Rattle.whole_file.specs.Others.{IsEither, LeavesOthers}
use Rattle.at_account.specs.UpdatedRecords.{GivesRecords, IsAccountDamage}
use Rattle.at_account.specs.Names.{account_file, account_temp}

-- a fault of a file, an out-of-memory error, or damage
abbrev pub IsReadingCause : Cause → Type 0
IsReadingCause FileFault = Unit {0}
IsReadingCause Memory = Unit {0}
IsReadingCause (Damaged damage) = Unit {0}
IsReadingCause _ = ⊥

-- a fault of a file, or an out-of-memory error
abbrev pub IsHostCause : Cause → Type 0
IsHostCause FileFault = Unit {0}
IsHostCause Memory = Unit {0}
IsHostCause _ = ⊥

-- damage is answered where the content has it
abbrev pub IsAccountUnread : Option (List ℕ) → Cause → Type 0
IsAccountUnread content (Damaged damage) = IsAccountDamage content damage
IsAccountUnread content FileFault = Unit {0}
IsAccountUnread content Memory = Unit {0}
IsAccountUnread content _ = ⊥

-- what a reading of the content answers
abbrev pub ReadsAccount : Option (List ℕ) → Result (List AccountRecord) CommandError → Type 0
ReadsAccount content (Ok records) = GivesRecords content records
ReadsAccount content (Err stopped) = IsAccountUnread content stopped.cause

-- the file of accounts has the records in each image
abbrev pub EachGivesRecords : List AccountRecord → Directory → Type 0
EachGivesRecords records directory = (image : Files) → IsImage directory image → GivesRecords (finite.get image account_file) records

-- It has them, the one that is being made is gone, and all other files read as before.
pub record AreRecordsWritten (records : List AccountRecord) (old new : Directory) : Type 0 where
  pub gives : EachGivesRecords records new
  pub no_temp : IsInNoImage new account_temp
  pub others : (name : List ℕ) → ¬ (IsEither account_temp account_file name)
      → finite.get (reading_of new) name ≡ finite.get (reading_of old) name

-- The image is one of the start but for the file of accounts and the one that is being made, and its file of accounts is
-- that one's, or has the records.
pub record IsWriting (records : List AccountRecord) (start : Directory) (image : Files) : Type 0 where
  pub alone : LeavesOthers (IsEither account_temp account_file) start image
  pub account : (finite.get image account_file ≡ finite.get alone.from account_file) ⊎ GivesRecords (finite.get image account_file) records
