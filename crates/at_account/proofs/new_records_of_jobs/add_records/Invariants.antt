use Rattle.std.proofs.Common.{◌++◌, List, take}
use Rattle.record_lines.specs.Lines.{AreLegalAfter}
use Rattle.at_account.specs.declared.record.AccountRecord.{AccountRecord}
use Rattle.at_account.specs.Records.{IsRecordAllowed}
use Rattle.at_account.specs.RecordStates.{IsLedgerOf}
use Rattle.at_account.proofs.new_records_of_jobs.add_records.Given as goal

abbrev pub invariant-loop-one : goal.invariant-loop-one
invariant-loop-one l = (before : List AccountRecord) → IsLedgerOf before l.fn.ledger → AreLegalAfter IsRecordAllowed before l.records
    → IsLedgerOf (before ++ take l.one-index l.records) l.ledger
