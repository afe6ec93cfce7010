-- Rows with one in the place of another, and their lines.
use Rattle.std.proofs.Common.{◌≡◌, ◌<◌, ◌++◌, ℕ, ℤ, suc, List, [], ◌∷◌, length, filter, take, drop, set, get_or, refl, sym, ap, subst, ◌∙◌}
use Rattle.std.specs.List.{remove}
use Rattle.std.proofs.lemmas.List.{set-get_or, set_split}
use Rattle.spool_model.specs.declared.row.Row.{Row}
use Rattle.spool_model.specs.JobTable.{JobTable}
use Rattle.spool_model.specs.Lists.{live_rows}
use Rattle.queue_rules.specs.Order.{is_ready_batch, is_ready_job}
use Rattle.queue_rules.specs.declared.due.Due.{Due}
use Rattle.queue_rules.specs.declared.lines.Lines.{Lines}
use Rattle.queue_rules.specs.Dues.{IsLineOf, is_due_at, is_waiting_batch, is_waiting_job}
use Rattle.queue_rules.specs.TwoLines.{AreLinesOf}
use Rattle.queue_rules.proofs.LineLemmas.{lines_put}
use Rattle.queue_rules.proofs.RowLemmas.{prefix_of_batch, prefix_of_jobs}
use Rattle.spool_store.proofs.CountLemmas.{rows_listed}
use Rattle.spool_store.specs.Listed.{ListsLive}
use Rattle.spool_store.specs.inside.Lined.{IsRowPut, running}

-- a list with what is at a place
whole : {X : Type 0} → (xs : List X) (i : ℕ) (x : X) → i < length xs → x ≡ get_or xs i x → xs ≡ take i xs ++ x ∷ drop (suc i) xs
whole xs i x within is = sym (sym (set_split xs i x within) ∙ ap (set xs i) is ∙ set-get_or xs i x)

pub row_taken : (rows new : List Row) (place : ℕ) (row : Row) → place < length rows → row ≡ get_or rows place row → new ≡ remove rows place
    → IsRowPut rows row [] new
row_taken rows new place row within is taken = record {
  prefix = take place rows;
  back = drop (suc place) rows;
  was = whole rows place row within is;
  is = taken;
}

pub row_set : (rows new : List Row) (place : ℕ) (row put : Row) → place < length rows → row ≡ get_or rows place row
    → new ≡ set rows place put → IsRowPut rows row (put ∷ []) new
row_set rows new place row put within is changed = record {
  prefix = take place rows;
  back = drop (suc place) rows;
  was = whole rows place row within is;
  is = changed ∙ set_split rows place put within;
}

-- the lines of the rows before, as the lines of a row among others
pub lines_with : (old new put : List Row) (row : Row) (lines : Lines) → IsRowPut old row put new → AreLinesOf old lines
    → (prefix : List Row) × (back : List Row) × AreLinesOf (prefix ++ row ∷ back) lines
lines_with old new put row lines at are = (at.prefix, at.back, subst (λ (rows : List Row). AreLinesOf rows lines) at.was are)

pub lines_less : (old new : List Row) (row : Row) (lines after : Lines) → IsRowPut old row [] new
    → ((prefix back : List Row) → AreLinesOf (prefix ++ row ∷ back) lines → AreLinesOf (prefix ++ back) after)
    → AreLinesOf old lines → AreLinesOf new after
lines_less old new row lines after at taken are =
    subst (λ (rows : List Row). AreLinesOf rows after) (sym at.is)
    (taken at.prefix at.back (subst (λ (rows : List Row). AreLinesOf rows lines) at.was are))

pub lines_started : (old new : List Row) (row : Row) (second : ℤ) (lines after : Lines) → IsRowPut old row (running row second ∷ []) new
    → ((prefix back : List Row) → AreLinesOf (prefix ++ row ∷ back) lines → AreLinesOf (prefix ++ back) after)
    → AreLinesOf old lines → AreLinesOf new after
lines_started old new row second lines after at taken are =
    subst (λ (rows : List Row). AreLinesOf rows after) (sym at.is)
    (lines_put at.prefix at.back (running row second) after refl
    (taken at.prefix at.back (subst (λ (rows : List Row). AreLinesOf rows lines) at.was are)))

pub lines_pushed : (old new : List Row) (row : Row) (lines after : Lines) → new ≡ old ++ row ∷ []
    → ((rows : List Row) → AreLinesOf rows lines → AreLinesOf (rows ++ row ∷ []) after) → AreLinesOf old lines → AreLinesOf new after
lines_pushed old new row lines after is added are = subst (λ (rows : List Row). AreLinesOf rows after) (sym is) (added old are)

-- the head of a line up to now is the line of the jobs that are due
pub due_listed : (table : JobTable) (rows : List Row) (due_jobs prefix : List Due) (now written : ℤ) → ListsLive table rows → written ≡ now
    → prefix ≡ filter (is_due_at written) due_jobs → IsLineOf is_waiting_job rows due_jobs
    → IsLineOf (is_ready_job now) (live_rows table) prefix
due_listed table rows due_jobs prefix now written lists same is line =
    subst (λ (listed : List Row). IsLineOf (is_ready_job now) listed prefix) (sym (rows_listed table rows lists))
    (subst (IsLineOf (is_ready_job now) rows) (sym (is ∙ ap (λ (at : ℤ). filter (is_due_at at) due_jobs) same))
    (prefix_of_jobs now rows due_jobs line))

pub batch_listed : (table : JobTable) (rows : List Row) (due_jobs prefix : List Due) (now written : ℤ)
    → ListsLive table rows → written ≡ now
    → prefix ≡ filter (is_due_at written) due_jobs → IsLineOf is_waiting_batch rows due_jobs
    → IsLineOf (is_ready_batch now) (live_rows table) prefix
batch_listed table rows due_jobs prefix now written lists same is line =
    subst (λ (listed : List Row). IsLineOf (is_ready_batch now) listed prefix) (sym (rows_listed table rows lists))
    (subst (IsLineOf (is_ready_batch now) rows) (sym (is ∙ ap (λ (at : ℤ). filter (is_due_at at) due_jobs) same))
    (prefix_of_batch now rows due_jobs line))
