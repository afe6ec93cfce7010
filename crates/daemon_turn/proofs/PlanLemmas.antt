-- What a turn will do, by the rows of the store.
use Rattle.host_calls.specs.ClockRange.{IsClockSecond}
use Rattle.std.proofs.lemmas.Int.{ints, to_z-of_z}
use Rattle.std.proofs.Common.{◌≡◌, ◌++◌, ℕ, ℤ, Bool, true, FitsSigned, List, [], ◌∷◌, arith, of_z, to_z, w64, filter, map, sym, ap, subst, refl, inl, inr}
use Rattle.std.specs.Prelude.{IfNone, IfSome, Option, Some, None, option_to_list}
use Rattle.spool_model.specs.declared.row.Row.{Row}
use Rattle.spool_model.specs.JobTable.{JobTable}
use Rattle.spool_model.specs.Lists.{live_rows}
use Rattle.queue_rules.specs.declared.due.Due.{Due}
use Rattle.queue_rules.specs.Dues.{IsLineOf}
use Rattle.queue_rules.proofs.LineLemmas.{head_is_first, line_is_due_order, no_places}
use Rattle.queue_rules.specs.Order.{AreInDueOrder, IsFirstBatch, is_ready_batch, is_ready_job, places_of}
use Rattle.spool_store.specs.Listed.{ListsLive}
use Rattle.spool_store.proofs.CountLemmas.{rows_listed}
use Rattle.daemon_turn.specs.declared.kid.Kid.{Kid}
use Rattle.spool_model.specs.declared.turn_step.TurnStep.TheVariants.{Interrupted}
use Rattle.daemon_turn.specs.Decisions.{interrupts, is_job_without_kid}
use Rattle.daemon_turn.specs.StartOrder.{IsBatchOrderWhere, IsFullOrder, Turn, has_batch_turn}

pub lost_listed : (table : JobTable) (rows : List Row) (kids : List Kid) → ListsLive table rows →
    map (λ (row : Row). Interrupted row.number) (filter (is_job_without_kid kids) rows) ≡ interrupts table kids
lost_listed table rows kids lists =
    ap (λ (listed : List Row). map (λ (row : Row). Interrupted row.number) (filter (is_job_without_kid kids) listed))
    (sym (rows_listed table rows lists))

-- an item of the first of a line, or of none
pub batch_in_line : (table : JobTable) (due_jobs : List Due) (now written : ℤ) (may : Bool) (found : Option ℕ) → written ≡ now → may ≡ true
    → IsLineOf (is_ready_batch written) (live_rows table) due_jobs
    → IfSome found (λ number. (due : Due) × (later : List Due) × (due_jobs ≡ due ∷ later) × (number ≡ due.number))
    → IfNone found (due_jobs ≡ []) → IsBatchOrderWhere may table now (option_to_list found)
batch_in_line table due_jobs now written may found same is line some none =
    subst (λ (b : Bool). IsBatchOrderWhere b table now (option_to_list found)) (sym is) (by_found found some none) where
      by_found : (one : Option ℕ) → IfSome one (λ number. (due : Due) × (later : List Due) × (due_jobs ≡ due ∷ later)
          × (number ≡ due.number)) → IfNone one (due_jobs ≡ [])
          → IsBatchOrderWhere true table now (option_to_list one)
      by_found (Some number) (due, later, are, of) other =
          inl (
            number,
            subst (IsFirstBatch (live_rows table) now) (sym of) (subst (λ (at : ℤ). IsFirstBatch (live_rows table) at due.number) same
                (head_is_first (live_rows table) written due later (subst (IsLineOf (is_ready_batch written) (live_rows table)) are line))),
            refl,
          )
      by_found None first other =
          inr (
            subst (λ (at : ℤ). places_of (is_ready_batch at) (live_rows table) ≡ []) same
                (no_places (is_ready_batch written) (live_rows table)
                (subst (IsLineOf (is_ready_batch written) (live_rows table)) other line)),
            refl,
          )

pub order_in_line : (turn : Turn) (table : JobTable) (due_jobs : List Due) (written : ℤ) (numbers : List ℕ) (batch : Option ℕ)
    (order : List ℕ) → written ≡ turn.now
    → IsLineOf (is_ready_job written) (live_rows table) due_jobs → numbers ≡ map (λ due. due.number) due_jobs
    → IsBatchOrderWhere (has_batch_turn turn table) table turn.now (option_to_list batch)
    → order ≡ numbers ++ option_to_list batch → IsFullOrder turn table order
order_in_line turn table due_jobs written numbers batch order same line are allowed both = record {
  jobs = numbers;
  batch = option_to_list batch;
  due = subst (λ (at : ℤ). AreInDueOrder (live_rows table) at numbers) same
      (subst (AreInDueOrder (live_rows table) written) (sym are) (line_is_due_order (live_rows table) written due_jobs line));
  allowed = allowed;
  both = both;
}

-- a second of the clock is the same as it is written
pub clock_same : (second : ℤ) → IsClockSecond second → to_z w64 (of_z w64 second) ≡ second
clock_same second is = to_z-of_z w64 second (fits second is) where
  fits : (of : ℤ) → IsClockSecond of → FitsSigned w64 of
  fits of (range) = let low = range.low in let high = range.high in omega (arith, ints)
