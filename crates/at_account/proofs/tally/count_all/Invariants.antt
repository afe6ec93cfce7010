use Rattle.std.proofs.Common.{◌++◌, List, take}
use Rattle.at_account.specs.declared.record.AccountRecord.{AccountRecord}
use Rattle.at_account.specs.RecordStates.{IsLedgerOf}
use Rattle.at_account.specs.inside.OwnerCounts.{IsTallyOf}
use Rattle.at_account.proofs.tally.count_all.Given as goal

abbrev pub invariant-loop-one : goal.invariant-loop-one
invariant-loop-one l = (all counted : List AccountRecord) → IsLedgerOf all l.ledger → IsTallyOf all counted l.fn.tally
    → IsTallyOf all (counted ++ take l.one-index l.records) l.tally
