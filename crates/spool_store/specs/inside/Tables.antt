-- The rows and finished numbers of the table that marks and files show (own).
use Rattle.std.specs.Prelude.{◌≡◌, ◌≤◌, ℕ, List, None, Contains, map, false}
use Rattle.std.specs.List.Sorted.{IsStrictlySortedBy}
use Rattle.std.specs.Ordering.{nat_cmp}
use Rattle.spool_model.specs.declared.decided.Decided.{Decided}
use Rattle.spool_model.specs.declared.row.Row.{Row}
use Rattle.spool_model.specs.JobTable.{JobTable}
use Rattle.start_journal.specs.declared.mark.Mark.{Mark}
use Rattle.start_journal.specs.Marks.{is_decided, last_batch}
use Rattle.spool_shows.specs.JobFiles.{JobFile}
use Rattle.spool_shows.specs.Shown.{damage_of_jobs, table_shown}
use Rattle.step_runs.specs.WithoutScripts.{without_scripts}
use Rattle.spool_store.specs.Rows.{listed_table}

-- the number was drawn
abbrev pub IsDrawnBy : ℕ → ℕ → Type 0
IsDrawnBy last number = (1 ≤ number) × (number ≤ last)

-- no file is that of a finished number
abbrev pub AreUndecided : List Mark → List JobFile → Type 0
AreUndecided marks files = (file : JobFile) → Contains files file → is_decided file.job.number marks ≡ false

-- numbers that rise
abbrev pub AreAscending : List ℕ → Type 0
AreAscending numbers = IsStrictlySortedBy nat_cmp numbers

-- There is no damage, and the rows and finished numbers, each in the order of their numbers, are the table
-- that is shown, without scripts.
pub record ListsTable (last : ℕ) (marks : List Mark) (files : List JobFile) (rows : List Row)
    (decided : List Decided) : Type 0 where
  pub whole : damage_of_jobs last marks files ≡ None
  pub table : listed_table last rows decided (last_batch marks) ≡ without_scripts (table_shown last marks files)
  pub rows_rise : AreAscending (map (λ row. row.number) rows)
  pub decided_rise : AreAscending (map (λ one. one.number) decided)

-- each number of the rows and the finished ones was drawn, and none is in both
pub record ListsDrawn (last : ℕ) (rows : List Row) (decided : List Decided) : Type 0 where
  pub rows_drawn : (row : Row) → Contains rows row → IsDrawnBy last row.number
  pub decided_drawn : (one : Decided) → Contains decided one → IsDrawnBy last one.number
  pub apart : (row : Row) (one : Decided) → Contains rows row → Contains decided one → ¬ (row.number ≡ one.number)

-- there is no damage, and this is the table that is shown, without scripts
abbrev pub IsTableShown : ℕ → List Mark → List JobFile → JobTable → Type 0
IsTableShown last marks files table = (damage_of_jobs last marks files ≡ None) ×
    (table ≡ without_scripts (table_shown last marks files))
