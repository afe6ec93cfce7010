-- The rows and finished numbers of a store, and the table that they are (own).
use Rattle.std.specs.Prelude.{[], ◌++◌, ℕ, ℤ, List, Option, map}
use Rattle.std.specs.FinMap.{from_entries}
use Rattle.spool_model.specs.declared.decided.Decided.{Decided}
use Rattle.spool_model.specs.declared.entry.Entry.TheVariants.{Live, Done}
use Rattle.spool_model.specs.declared.row.Row.{Row}
use Rattle.spool_model.specs.JobTable.{JobEntry, JobTable, table_of}

-- the entry of a live job, without its script
abbrev pub row_entry : Row → ℕ × JobEntry
row_entry row = (row.number, Live (record { queue = row.queue; minute = row.minute; user = row.user; script = [] }) row.state)

-- the entry of a finished number
abbrev pub decided_entry : Decided → ℕ × JobEntry
decided_entry decided = (decided.number, Done decided.fate)

-- the entries of rows and finished numbers
abbrev pub listed_entries : List Row → List Decided → List (ℕ × JobEntry)
listed_entries rows decided = map row_entry rows ++ map decided_entry decided

-- the table of rows and finished numbers
abbrev pub listed_table : ℕ → List Row → List Decided → Option ℤ → JobTable
listed_table last rows decided last_batch = table_of last (from_entries (listed_entries rows decided)) last_batch
