-- How a proof distinguishes what one store keeps from what another does: by the parts that it is made of.
use Rattle.std.specs.Prelude.{ℕ, List, refl}
use Rattle.std.specs.Coded.{Coded, code_by, coded×, coded_ℕ, coded_list}
use Rattle.spool_model.specs.Codes.{table_code}
use Rattle.spool_model.specs.JobTable.{JobTable}
use Rattle.start_journal.specs.contracts.mark.Mark as mark
use Rattle.start_journal.specs.declared.mark.Mark.{Mark}
use Rattle.step_runs.specs.Current.{Kept}

-- what is kept is stored as the table, the marks, the number of free slots and the numbers of names in the old form
abbrev pub kept_code : Coded Kept
kept_code =
    code_by (JobTable × (List Mark × (ℕ × List ℕ)))
    (coded× table_code (coded× (coded_list mark.the_row.coded) (coded× coded_ℕ (coded_list coded_ℕ))))
    (λ kept. (kept.table, (kept.journal.marks, (kept.journal.free, kept.old_form))))
    (λ parts. record { table = parts.0; journal = record { marks = parts.1.0; free = parts.1.1.0 }; old_form = parts.1.1.1 })
    (λ _. refl)
