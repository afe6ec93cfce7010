-- The rows of a store are in range.
use Rattle.std.proofs.Common.{List, subst, Contains}
use Rattle.spool_model.specs.declared.row.Row.{Row}
use Rattle.step_runs.specs.Current.{Kept}
use Rattle.spool_store.specs.Listed.{ListsLive, row_job}
use Rattle.spool_store.specs.Stored.{IsEntryBy, IsLiveBy, IsRowInRange, IsStored}

-- the row of a live job is in range
pub row_in_range : (kept : Kept) (rows : List Row) → IsStored kept → ListsLive kept.table rows → (row : Row)
    → Contains rows row → IsRowInRange row
row_in_range kept rows stored lists row there =
    let live : IsLiveBy kept.journal.marks row.number (row_job row) row.state =
    subst (IsEntryBy kept.journal.marks row.number) (lists.each row there) (stored.entries row.number) in
    record { named = live.named; since = live.since }
