-- What is new of all jobs, by what the records and the table of jobs say of them (own).
use Rattle.std.specs.Prelude.{◌≡◌, ◌≤◌, ◌<◌, ◌+◌, ◌∷◌, ◌++◌, [], ℕ, List, Option, Contains, IsTrue, length}
use Rattle.std.specs.Char.{is_ascii_alphabetic}
use Rattle.std.specs.List.{AllByRecursion, filter}
use Rattle.std.specs.Option.{option_map}
use Rattle.at_account.specs.declared.new_records.KnownJob.{KnownJob}
use Rattle.at_account.specs.declared.record.AccountRecord.{AccountRecord}
use Rattle.at_account.specs.News.{known_job, news_of}
use Rattle.at_account.specs.Records.{is_account_record_of}
use Rattle.spool_model.specs.declared.row.Row.{Row}
use Rattle.spool_model.specs.JobTable.{JobTable, entry_at}
use Rattle.at_account.specs.declared.account.TheConstants.{MAX_RECORDS}

-- the numbers of the records never fall
abbrev pub AreRecordsByNumber : List AccountRecord → Type 0
AreRecordsByNumber [] = Unit {0}
AreRecordsByNumber (one ∷ later) = AllByRecursion (λ next. one.number ≤ next.number) later × AreRecordsByNumber later

-- Of each number the records are the new ones after these, by what is known of it, and they are ordered by number.
pub record AreNewsBy (before : List AccountRecord) (known : ℕ → Option KnownJob) (new_records : List AccountRecord) : Type 0 where
  pub each : (number : ℕ) → filter (is_account_record_of number) new_records ≡ news_of before number (known number)
  pub by_number : AreRecordsByNumber new_records

-- what the table has of a number
abbrev pub known_in : JobTable → ℕ → Option KnownJob
known_in table number = option_map known_job (entry_at table number)

-- the records are the new ones of a table
abbrev pub AreNews : List AccountRecord → JobTable → List AccountRecord → Type 0
AreNews before table new_records = AreNewsBy before (known_in table) new_records

-- the new records of the table came after the old ones
pub record IsObserved (old new : List AccountRecord) (table : JobTable) : Type 0 where
  pub new_records : List AccountRecord
  pub added : new ≡ old ++ new_records
  pub are : AreNews old table new_records

-- with the new records of the table there would be too many
pub record WouldPass (old : List AccountRecord) (table : JobTable) : Type 0 where
  pub new_records : List AccountRecord
  pub are : AreNews old table new_records
  pub many : MAX_RECORDS < length old + length new_records

-- the queue of each row is a letter
abbrev pub HaveLetters : List Row → Type 0
HaveLetters rows = (row : Row) → Contains rows row → IsTrue (is_ascii_alphabetic row.queue)
