use Rattle.std.proofs.Common.{sym, subst, ◌∙◌, List, map}
use Rattle.spool_model.specs.declared.row.Row.{Row}
use Rattle.spool_store.specs.Listed.{AreSortedEntries}
use Rattle.spool_store.specs.Rows.{row_entry}
use Rattle.spool_store.specs.inside.JobRows.{ListsRows, rows_by_number}
use Rattle.spool_store.specs.inside.ScannedJobs.{files_scanned}
use Rattle.spool_store.proofs.ListLemmas.{lists_drawn, lists_table, scanned_number}
use Rattle.spool_store.proofs.ListedLemmas.{rows_in_order}
use Rattle.spool_store.proofs.TableLemmas.{no_damage, unnumbered}
use Rattle.spool_store.proofs.tables.listed.Goals as goal

pub starts_fault-requires-clause-order : goal.starts_fault-requires-clause-order
starts_fault-requires-clause-order c =
    subst (λ (rows : List Row). AreSortedEntries (map row_entry rows)) (sym c.as_slice.ensures.value)
    (rows_in_order c.in_ok-rows.rows.items (c.in_ok-rows.ensures c.args.marks.now c.requires.known).1.rise)

pub returns-clause-table : goal.returns-clause-table
returns-clause-table c =
    let files = files_scanned c.args.scanned.now in
    let rows = c.in_ok-rows.rows.items in
    let have = c.in_ok-rows.ensures c.args.marks.now c.requires.known in
    lists_table c.args.last c.args.marks.now files (rows_by_number rows) c.args.lives.now _ _ c.requires.known have.1.are
    have.1.rise c.in_ok-decided.ensures.ordered (sym (unnumbered rows)) c.in_ok-decided.ensures.items
    (no_damage c.args.last c.args.marks.now files have.0 (sym c.in_default.is ∙ c.starts_fault.ensures files c.requires.known
    (subst (ListsRows c.args.marks.now files) (sym c.as_slice.ensures.value) have.1)))

pub returns-clause-drawn : goal.returns-clause-drawn
returns-clause-drawn c = λ undecided writable drawn.
    let files = files_scanned c.args.scanned.now in
    let rows = c.in_ok-rows.rows.items in
    let have = c.in_ok-rows.ensures c.args.marks.now c.requires.known in
    lists_drawn c.args.last c.args.marks.now files (rows_by_number rows) c.args.lives.now _ _ c.requires.known have.1.are
    have.1.rise c.in_ok-decided.ensures.ordered (sym (unnumbered rows)) c.in_ok-decided.ensures.items
    have.0 undecided writable drawn (scanned_number c.args.scanned.now)
