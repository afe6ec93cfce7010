-- What holds of the new records of every table.
use Rattle.std.specs.Prelude.{◌≡◌, List}
use Rattle.at_account.specs.declared.record.AccountRecord.{AccountRecord}
use Rattle.spool_model.specs.JobTable.{JobTable}
use Rattle.at_account.specs.ObservedTable.{AreNews}

-- they are one list
abbrev pub NewsAreOne : Type 0
NewsAreOne = (before : List AccountRecord) (table : JobTable) (one other : List AccountRecord) → AreNews before table one
    → AreNews before table other →
    one ≡ other
