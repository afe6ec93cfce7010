-- What is known of each job, by its number: of those that records name, and of those in a table.
use Rattle.std.specs.Prelude.{◌≡◌, ℕ, true, List, Option, Some, None, is_some}
use Rattle.std.specs.BTreeMap as tree
use Rattle.std.specs.BTreeMap.{BTreeMap, is_at}
use Rattle.std.specs.Map.{update_all}
use Rattle.std.specs.Option.{unwrap_or}
use Rattle.std.specs.Ordering.{nat_cmp}
use Rattle.at_account.specs.declared.new_records.KnownJob.{KnownJob}
use Rattle.at_account.specs.declared.new_records.KnownJob.TheVariants.{Done, Live}
use Rattle.at_account.specs.declared.record.AccountRecord.{AccountRecord}
use Rattle.at_account.specs.News.{is_running_state}
use Rattle.at_account.specs.Records.{has_record_of}
use Rattle.spool_model.specs.declared.decided.Decided.{Decided}
use Rattle.spool_model.specs.declared.row.Row.{Row}

-- a number, and what the table has of it
abbrev pub Known : Type 0
Known = ℕ × Option KnownJob

abbrev pub record_known : AccountRecord → Known
record_known one = (one.number, None)

abbrev pub row_known : Row → Known
row_known row = (row.number, Some (Live (record { user = row.user; queue = row.queue }) (is_running_state row.state)))

abbrev pub decided_known : Decided → Known
decided_known decided = (decided.number, Some (Done decided.fate))

-- what a map has of a number
abbrev pub Jobs : Type 0
Jobs = BTreeMap ℕ (Option KnownJob)

abbrev pub job_at : Jobs → ℕ → Option (Option KnownJob)
job_at jobs number = tree.get nat_cmp jobs number

-- what it has once these are put in, one after the other
abbrev pub jobs_after : (ℕ → Option (Option KnownJob)) → List Known → ℕ → Option (Option KnownJob)
jobs_after jobs known number = update_all (λ key. is_at (nat_cmp key)) jobs known number

-- the map is the old one with these put in
abbrev pub ArePut : List Known → Jobs → Jobs → Type 0
ArePut known old new = (number : ℕ) → job_at new number ≡ jobs_after (job_at old) known number

-- the map has what is known of each number, and each number that the records name
pub record Knows (before : List AccountRecord) (known : ℕ → Option KnownJob) (jobs : Jobs) : Type 0 where
  pub each : (number : ℕ) → unwrap_or (job_at jobs number) None ≡ known number
  pub named : (number : ℕ) → has_record_of number before ≡ true → is_some (job_at jobs number) ≡ true
