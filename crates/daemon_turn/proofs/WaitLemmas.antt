-- The jobs that a turn starts wait until they are started.
use Rattle.std.proofs.Common.{◌≡◌, ◌≢◌, ◌++◌, ℕ, ℤ, Bool, true, false, not, List, [], ◌∷◌, map, inl, inr, sym, ap, subst, ◌∙◌, refl}
use Rattle.std.specs.Prelude.{Option, Some}
use Rattle.std.proofs.lemmas.Bool.{and_parts}
use Rattle.spool_model.specs.declared.entry.Entry.TheVariants.{Live}
use Rattle.spool_model.specs.declared.job.Job.{Job}
use Rattle.spool_model.specs.declared.row.Row.{Row}
use Rattle.spool_model.specs.declared.state.State.{State}
use Rattle.spool_model.specs.declared.state.State.TheVariants.{Pending, Running}
use Rattle.spool_model.specs.JobTable.{IsPending, IsRunning, JobEntry, JobTable, entry_at, is_batch_queue}
use Rattle.spool_model.specs.Lists.{live_rows}
use Rattle.spool_model.specs.Steps.{after_steps}
use Rattle.queue_rules.specs.Order.{AreInDueOrder, IsNumberOf, is_pending, is_ready, is_ready_job, row_numbers}
use Rattle.queue_rules.specs.Queues.{is_due}
use Rattle.queue_rules.proofs.StartLemmas.{batch_is_apart, batch_number, due_numbers, due_numbers_differ}
use Rattle.spool_shows.proofs.Membership.{Has, has_contained, has_either}
use Rattle.daemon_turn.specs.declared.mode.Mode.{Mode}
use Rattle.daemon_turn.specs.declared.mode.Mode.TheVariants.{Full, EndsOnly}
use Rattle.spool_model.specs.declared.turn_step.TurnStep.{TurnStep}
use Rattle.daemon_turn.specs.StartOrder.{IsBatchOrderWhere, IsFullOrder, IsOrder, IsOrderIn, Turn, has_batch_turn}
use Rattle.spool_model.specs.StepsOf.{number_of_step, steps_of_turn}
use Rattle.daemon_turn.specs.inside.PendingNumbers.{ArePendingNumbers}
use Rattle.step_runs.proofs.ApartLemmas.{Apart, all_each, apart_append, apart_differ, differ_apart, each_all}
use Rattle.daemon_turn.proofs.LegalLemmas.{entries_stay}
use Rattle.step_runs.proofs.RowLemmas.{row_held, rows_apart}

-- a job that waits by its state
waits : (state : State) → is_pending state ≡ true → state ≡ Pending
waits Pending is = refl
waits (Running second) is = let impossible : false ≡ true = is in cc

row_waits : (table : JobTable) (row : Row) → Has (live_rows table) row → is_pending row.state ≡ true → IsPending table row.number
row_waits table row has is =
    let held : (job : Job) × (entry_at table row.number ≡ Some (Live job row.state)) = row_held table row has in
    (held.0, held.1 ∙ ap (λ (state : State). Some (Live held.0 state)) (waits row.state is))

-- a number of a ready row is that of a job that waits
ready_waits : (table : JobTable) (now : ℤ) (queued : Row → Bool) (number : ℕ) →
    IsNumberOf (λ row. Rattle.std.proofs.Common.◌&&◌ (is_ready now row) (queued row)) (live_rows table) number → IsPending table number
ready_waits table now queued number of =
    let ready : is_ready now of.row ≡ true = (and_parts (is_ready now of.row) (queued of.row) of.passes).0 in
    subst (IsPending table) of.named
    (row_waits table of.row (has_contained (live_rows table) of.row of.listed)
    (and_parts (is_pending of.row.state) (is_due now of.row) ready).0)

-- the numbers that start, one mode and one case after another
module _ (turn : Turn) (table : JobTable) where
  batch_waits : (may : Bool) (batch : List ℕ) → IsBatchOrderWhere may table turn.now batch → (number : ℕ) → Has batch number
      → IsPending table number
  batch_waits true batch (inl some) number has = by_one (subst (λ (numbers : List ℕ). Has numbers number) some.2 has) where
    by_one : Has (some.0 ∷ []) number → IsPending table number
    by_one (inl same) = subst (IsPending table) same
        (ready_waits table turn.now (λ row. is_batch_queue row.queue) some.0 (batch_number (live_rows table) turn.now some.0 some.1))
    by_one (inr none) = absurd none
  batch_waits true batch (inr none) number has = absurd (subst (λ (numbers : List ℕ). Has numbers number) none.1 has)
  batch_waits false batch none number has = absurd (subst (λ (numbers : List ℕ). Has numbers number) none has)

  batch_apart : (may : Bool) (batch : List ℕ) → IsBatchOrderWhere may table turn.now batch → Apart batch
  batch_apart true batch (inl some) = subst Apart (sym some.2) (λ none. none, tt)
  batch_apart true batch (inr none) = subst Apart (sym none.1) tt
  batch_apart false batch none = subst Apart (sym none) tt

  -- the batch job is none of the others
  batch_other : (may : Bool) (jobs batch : List ℕ) → AreInDueOrder (live_rows table) turn.now jobs
      → IsBatchOrderWhere may table turn.now batch →
      (number : ℕ) → Has jobs number → Has batch number → ⊥
  batch_other true jobs batch due (inl some) number job has = by_one (subst (λ (numbers : List ℕ). Has numbers number) some.2 has) where
    by_one : Has (some.0 ∷ []) number → ⊥
    by_one (inl same) =
        all_each (λ other. other ≢ some.0) jobs
        (batch_is_apart (live_rows table) turn.now jobs some.0 (apart_differ (row_numbers (live_rows table)) (rows_apart table)) due some.1)
        number job (sym same)
    by_one (inr none) = none
  batch_other true jobs batch due (inr none) number job has = subst (λ (numbers : List ℕ). Has numbers number) none.1 has
  batch_other false jobs batch due none number job has = subst (λ (numbers : List ℕ). Has numbers number) none has

  full_waits : (order : List ℕ) → IsFullOrder turn table order → ArePendingNumbers table order
  full_waits order full = subst (ArePendingNumbers table) (sym full.both) (record {
    each = each_all (IsPending table) (full.jobs ++ full.batch) (λ number has. elim (has_either full.jobs full.batch number has) [
      | inl job ↦ ready_waits table turn.now (λ row. not (is_batch_queue row.queue)) number
          (all_each (IsNumberOf (is_ready_job turn.now) (live_rows table)) full.jobs
          (due_numbers (live_rows table) turn.now full.jobs full.due) number job)
      | inr batch ↦ batch_waits (has_batch_turn turn table) full.batch full.allowed number batch
    ]);
    apart = apart_differ (full.jobs ++ full.batch) (apart_append full.jobs full.batch
        (differ_apart full.jobs (due_numbers_differ (live_rows table) turn.now full.jobs
        (apart_differ (row_numbers (live_rows table)) (rows_apart table)) full.due))
        (batch_apart (has_batch_turn turn table) full.batch full.allowed)
        (batch_other (has_batch_turn turn table) full.jobs full.batch full.due full.allowed));
  })

  none_waits : (order : List ℕ) → order ≡ [] → ArePendingNumbers table order
  none_waits order none = subst (ArePendingNumbers table) (sym none) (record {
    each = each_all (IsPending table) [] (λ number has. absurd has);
    apart = apart_differ [] tt;
  })

  pub order_waits : (order : List ℕ) → IsOrder turn table order → ArePendingNumbers table order
  order_waits order is = by_mode turn.mode is where
    by_mode : (mode : Mode) → IsOrderIn mode turn table order → ArePendingNumbers table order
    by_mode Full is = full_waits order is
    by_mode EndsOnly is = none_waits order is

-- they still wait after steps of other jobs
pub waiting_after : (table : JobTable) (steps : List TurnStep) (numbers : List ℕ) → ArePendingNumbers table numbers →
    ((number : ℕ) → Has numbers number → Has (map number_of_step steps) number → ⊥)
    → ArePendingNumbers (after_steps table (steps_of_turn steps)) numbers
waiting_after table steps numbers waiting others = record {
  each = each_all (IsPending (after_steps table (steps_of_turn steps))) numbers (λ number has.
      (let was : IsPending table number = all_each (IsPending table) numbers waiting.each number has in
      (was.0, entries_stay table steps number (others number has) ∙ was.1)));
  apart = waiting.apart;
}

-- a job that waits does not run
pub waits_or_runs : (table : JobTable) (number : ℕ) → IsPending table number → IsRunning table number → ⊥
waits_or_runs table number pending running =
    let both : ◌≡◌ {A = Option JobEntry} (Some (Live pending.0 Pending)) (Some (Live running.0 (Running running.1))) =
    sym pending.1 ∙ running.2 in
    cc
