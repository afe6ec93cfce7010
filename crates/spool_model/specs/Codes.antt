-- How a proof distinguishes one table from another: by the parts that it is made of.
use Rattle.std.specs.Prelude.{ℕ, ℤ, Option, refl}
use Rattle.std.specs.Coded.{Coded, code_by, coded×, coded_ℕ, coded_ℤ, coded_option}
use Rattle.std.specs.FinMap as map
use Rattle.spool_model.specs.contracts.entry.Entry as entry
use Rattle.spool_model.specs.JobTable.{JobTable, JobEntries}

-- the entries are stored as the list of them
abbrev pub entries_code : Coded JobEntries
entries_code = map.code coded_ℕ entry.the_row.coded

-- a table is stored as its three fields
abbrev pub table_code : Coded JobTable
table_code =
    code_by (ℕ × (JobEntries × Option ℤ)) (coded× coded_ℕ (coded× entries_code (coded_option coded_ℤ)))
    (λ table. (table.last, (table.entries, table.last_batch)))
    (λ parts. record { last = parts.0; entries = parts.1.0; last_batch = parts.1.1 })
    (λ _. refl)
