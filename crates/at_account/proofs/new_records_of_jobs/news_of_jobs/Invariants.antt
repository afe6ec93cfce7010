use Rattle.std.proofs.Common.{◌≡◌, ◌++◌, List}
use Rattle.at_account.specs.declared.record.AccountRecord.{AccountRecord}
use Rattle.at_account.specs.RecordStates.{IsLedgerOf}
use Rattle.at_account.specs.inside.NewRecordsOfJobs.{news_of_all}
use Rattle.at_account.proofs.new_records_of_jobs.news_of_jobs.Given as goal

abbrev pub invariant-loop-number : goal.invariant-loop-number
invariant-loop-number l = (before : List AccountRecord) → IsLedgerOf before l.ledger
    → l.new_records.items ++ news_of_all before l.number-iterator ≡ news_of_all before l.jobs.entries
