-- The records of the file of accounts, and those with what is new (own).
use Rattle.std.specs.Prelude.{◌≡◌, ◌≤◌, ◌++◌, [], ℕ, List, Option, Some, None, Ok, length}
use Rattle.std.specs.FinMap as finite
use Rattle.host_calls.specs.Damages.{damage_at}
use Rattle.host_calls.specs.declared.damage.Damage.{Damage}
use Rattle.host_calls.specs.Directory.{Files}
use Rattle.record_lines.specs.Lines.{AreRecordLines, IsFirstBadLine}
use Rattle.at_account.specs.declared.record.AccountRecord.{AccountRecord}
use Rattle.at_account.specs.Lines.{SpellsRecord}
use Rattle.at_account.specs.Records.{IsRecordAllowed}
use Rattle.at_account.specs.declared.account.TheConstants.{MAX_RECORDS}
use Rattle.at_account.specs.ObservedTable.{AreNews, WouldPass}
use Rattle.spool_model.specs.JobTable.{JobTable}
use Rattle.spool_shows.specs.Shown.{shown_by}
use Rattle.at_account.specs.Names.{account_file}

-- the content of the file has these records; where there is no file, there are none
abbrev pub GivesRecords : Option (List ℕ) → List AccountRecord → Type 0
GivesRecords None records = records ≡ []
GivesRecords (Some bytes) records = AreRecordLines SpellsRecord IsRecordAllowed bytes records

-- the file is damaged at the first byte of its first bad line
pub record IsAccountDamage (content : Option (List ℕ)) (damage : Damage) : Type 0 where
  pub bytes : List ℕ
  pub offset : ℕ
  pub is : content ≡ Some bytes
  pub first : IsFirstBadLine SpellsRecord IsRecordAllowed bytes offset
  pub damage_is : damage ≡ damage_at account_file bytes offset

-- The files show the table, and the records are those of the file of accounts with what is new of that table, not too many.
pub record AreUpdatedRecords (files : Files) (table : JobTable) (records : List AccountRecord) : Type 0 where
  pub read : List AccountRecord
  pub new_records : List AccountRecord
  pub shown : shown_by files ≡ Ok table
  pub gives : GivesRecords (finite.get files account_file) read
  pub are : AreNews read table new_records
  pub all : records ≡ read ++ new_records
  pub few : length records ≤ MAX_RECORDS

-- the files show a table, with whose new records there would be too many
pub record AreTooManyRecords (files : Files) : Type 0 where
  pub table : JobTable
  pub read : List AccountRecord
  pub shown : shown_by files ≡ Ok table
  pub gives : GivesRecords (finite.get files account_file) read
  pub many : WouldPass read table
