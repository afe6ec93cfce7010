use Rattle.spool_store.proofs.RowRanges.{row_in_range}
use Rattle.spool_store.proofs.store.Store.rows.Goals as goal

pub returns-clause-ranges : goal.returns-clause-ranges
returns-clause-ranges c = row_in_range _ c.rows.result.now c.self.invariant c.rows.ensures
