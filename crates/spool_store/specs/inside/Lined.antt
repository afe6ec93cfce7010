-- The rows of a store and the lines of those that wait (own).
use Rattle.std.specs.Prelude.{◌≡◌, ◌++◌, ◌∷◌, ℕ, ℤ, List, map}
use Rattle.spool_model.specs.declared.decided.Decided.{Decided}
use Rattle.spool_model.specs.declared.row.Row.{Row}
use Rattle.spool_model.specs.declared.state.State.TheVariants.{Running}
use Rattle.queue_rules.specs.declared.lines.Lines.{Lines}
use Rattle.queue_rules.specs.TwoLines.{AreLinesOf}
use Rattle.spool_store.specs.Listed.{AreListed}
use Rattle.spool_store.specs.Rows.{decided_entry, row_entry}

-- the row, running since this second
abbrev pub running : Row → ℤ → Row
running row second = record { number = row.number; queue = row.queue; minute = row.minute; user = row.user; state = Running second }

-- the new rows are the old ones, with these in the place of one row
pub record IsRowPut (old : List Row) (row : Row) (put new : List Row) : Type 0 where
  pub prefix : List Row
  pub back : List Row
  pub was : old ≡ prefix ++ row ∷ back
  pub is : new ≡ prefix ++ (put ++ back)

-- The rows and the finished numbers are listed, and the lines are those of the rows.
pub record AreRowsKept (last : ℕ) (rows : List Row) (decided : List Decided) (lines : Lines) : Type 0 where
  pub listed : AreListed last (map row_entry rows) (map decided_entry decided)
  pub lined : AreLinesOf rows lines
