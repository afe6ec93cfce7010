-- A turn on a table without its scripts is that turn on the table.
use Rattle.std.proofs.Common.{◌≡◌, ◌++◌, ◌&&◌, ℕ, ℤ, Bool, true, false, not, List, [], ◌∷◌, filter, length, map, sym, ap, subst, ◌∙◌, refl, inl, inr}
use Rattle.std.specs.Prelude.{IsPermutation, Option, Some, None, option_map}
use Rattle.std.specs.List.{list_any}
use Rattle.host_calls.specs.declared.child.Ending.{Ending}
use Rattle.spool_model.specs.declared.entry.Entry.TheVariants.{Live, Done}
use Rattle.spool_model.specs.declared.row.Row.{Row}
use Rattle.spool_model.specs.declared.step.Step.{Step}
use Rattle.spool_model.specs.JobTable.{JobEntry, JobTable, entry_at}
use Rattle.spool_model.specs.Lists.{live_rows}
use Rattle.spool_model.specs.Steps.{after_steps}
use Rattle.step_runs.specs.WithoutScripts.{without_scripts, entry_without_script, step_without_script}
use Rattle.step_runs.proofs.WithoutScriptsLemmas.{entries_are_without_scripts, lists_step_as_on_the_table}
use Rattle.step_runs.proofs.ListLemmas.{lists_as_on_the_table}
use Rattle.queue_rules.specs.Order.{AreInDueOrder, IsFirstBatch, is_ready_batch, places_of}
use Rattle.queue_rules.specs.Queues.{may_start_batch}
use Rattle.daemon_turn.specs.declared.kid.Kid.{Kid}
use Rattle.daemon_turn.specs.declared.mode.Mode.{Mode}
use Rattle.daemon_turn.specs.declared.mode.Mode.TheVariants.{Full, EndsOnly}
use Rattle.spool_model.specs.declared.turn_step.TurnStep.{TurnStep}
use Rattle.spool_model.specs.declared.turn_step.TurnStep.TheVariants.{HandedOver, Ended, Interrupted, Forgotten}
use Rattle.daemon_turn.specs.Decisions.{asked_kids, decisions, end_steps, interrupts, is_job_without_kid, is_running_entry, runs_in}
use Rattle.daemon_turn.specs.Kids.{AreKidsAfter, kept_kids, tells_end_of}
use Rattle.daemon_turn.specs.StartOrder.{IsBatchOrderWhere, IsOrder, IsOrderIn, Turn, forgotten_steps, has_batch_turn, steps_of_starts}
use Rattle.spool_model.specs.StepsOf.{step_of, steps_of_turn}
use Rattle.daemon_turn.specs.Turning.{AreFirstSteps, AreTurnSteps, with_forgets}
use Rattle.step_runs.proofs.ApartLemmas.{filter_alike}

-- a job runs with and without its script
runs_alike : (table : JobTable) (kid : Kid) → runs_in (without_scripts table) kid ≡ runs_in table kid
runs_alike table kid = ap is_running_entry (entries_are_without_scripts table kid.number) ∙ by_entry (entry_at table kid.number) where
  by_entry : (found : Option JobEntry) → is_running_entry (option_map entry_without_script found) ≡ is_running_entry found
  by_entry None = refl
  by_entry (Some (Live job state)) = refl
  by_entry (Some (Done fate)) = refl

pub asked_alike : (table : JobTable) (kids : List Kid) → asked_kids (without_scripts table) kids ≡ asked_kids table kids
asked_alike table kids = filter_alike (runs_in (without_scripts table)) (runs_in table) kids (λ kid has. runs_alike table kid)

pub kept_alike : (table : JobTable) (steps : List TurnStep) (kids : List Kid)
    → kept_kids (without_scripts table) steps kids ≡ kept_kids table steps kids
kept_alike table steps kids =
    filter_alike (λ (kid : Kid). runs_in (without_scripts table) kid && not (list_any (tells_end_of kid.number) steps))
    (λ (kid : Kid). runs_in table kid && not (list_any (tells_end_of kid.number) steps)) kids
    (λ kid has. ap (λ b. b && not (list_any (tells_end_of kid.number) steps)) (runs_alike table kid))

rows_alike : (table : JobTable) → live_rows (without_scripts table) ≡ live_rows table
rows_alike table = (lists_as_on_the_table table).rows

decisions_alike : (table : JobTable) (kids : List Kid) (answers : List (Option Ending))
    → decisions (without_scripts table) kids answers ≡ decisions table kids answers
decisions_alike table kids answers =
    ap (λ (rows : List Row). map (λ (row : Row). Interrupted row.number) (filter (is_job_without_kid kids) rows)
    ++ end_steps (asked_kids (without_scripts table) kids) answers) (rows_alike table)
    ∙ ap (λ (asked : List Kid). interrupts table kids ++ end_steps asked answers) (asked_alike table kids)

last_batch_alike : (table : JobTable) → (without_scripts table).last_batch ≡ table.last_batch
unfolding without_scripts
last_batch_alike table = refl

-- the jobs that start
order_alike : (turn : Turn) (table : JobTable) (order : List ℕ) → IsOrder turn (without_scripts table) order → IsOrder turn table order
order_alike turn table order is = by_mode turn.mode is where
  by_where : (may : Bool) (batch : List ℕ) → IsBatchOrderWhere may (without_scripts table) turn.now batch
      → IsBatchOrderWhere may table turn.now batch
  by_where true batch (inl one) = inl (one.0, subst (λ (rows : List Row). IsFirstBatch rows turn.now one.0) (rows_alike table) one.1, one.2)
  by_where true batch (inr none) =
      inr (subst (λ (rows : List Row). places_of (is_ready_batch turn.now) rows ≡ []) (rows_alike table) none.0, none.1)
  by_where false batch none = none

  turns_alike : has_batch_turn turn (without_scripts table) ≡ has_batch_turn turn table
  turns_alike = ap (λ (last : Option ℤ). may_start_batch turn.load turn.limit last turn.now turn.interval) (last_batch_alike table)

  by_mode : (mode : Mode) → IsOrderIn mode turn (without_scripts table) order → IsOrderIn mode turn table order
  by_mode Full full = record {
    jobs = full.jobs;
    batch = full.batch;
    due = subst (λ (rows : List Row). AreInDueOrder rows turn.now full.jobs) (rows_alike table) full.due;
    allowed = by_where (has_batch_turn turn table) full.batch
        (subst (λ (b : Bool). IsBatchOrderWhere b (without_scripts table) turn.now full.batch) turns_alike full.allowed);
    both = full.both;
  }
  by_mode EndsOnly none = none

-- no step of a turn has a script
without_scripts_is : (step : TurnStep) → step_without_script (step_of step) ≡ step_of step
without_scripts_is (HandedOver number second) = refl
without_scripts_is (Ended number ending) = refl
without_scripts_is (Interrupted number) = refl
without_scripts_is (Forgotten number) = refl

without_scripts_steps : (steps : List TurnStep) → map step_without_script (steps_of_turn steps) ≡ steps_of_turn steps
without_scripts_steps [] = refl
without_scripts_steps (step ∷ steps) = ap (λ (one : Step). one ∷ map step_without_script (steps_of_turn steps)) (without_scripts_is step)
    ∙ ap (λ (l : List Step). step_of step ∷ l) (without_scripts_steps steps)

-- the table after steps, without scripts
pub after_alike : (table : JobTable) (steps : List TurnStep)
    → after_steps (without_scripts table) (steps_of_turn steps) ≡ without_scripts (after_steps table (steps_of_turn steps))
after_alike table steps =
    sym (lists_step_as_on_the_table table (steps_of_turn steps) ∙ ap (after_steps (without_scripts table)) (without_scripts_steps steps))

forgets_alike : (table : JobTable) (steps : List TurnStep) → with_forgets (without_scripts table) steps ≡ with_forgets table steps
forgets_alike table steps =
    ap (λ (after : JobTable). steps ++ forgotten_steps after) (after_alike table steps)
    ∙ ap (λ (done : List ℕ).
    steps ++ map Rattle.spool_model.specs.declared.turn_step.TurnStep.TheVariants.Forgotten (Rattle.std.proofs.Common.take
    (Rattle.std.proofs.Common.◌-◌ (length done) Rattle.spool_model.specs.declared.decided.TheConstants.MAX_DONE) done))
    (lists_as_on_the_table (after_steps table (steps_of_turn steps))).done

module _ (turn : Turn) (table : JobTable) (answers : List (Option Ending)) where
  asked_all : length answers ≡ length (asked_kids (without_scripts table) turn.kids) → length answers ≡ length (asked_kids table turn.kids)
  asked_all same = same ∙ ap length (asked_alike table turn.kids)

  pub turn_alike : (flags : List Bool) (steps : List TurnStep) → AreTurnSteps turn (without_scripts table) answers flags steps
      → AreTurnSteps turn table answers flags steps
  turn_alike flags steps are = record {
    order = are.order;
    ordered = order_alike turn table are.order are.ordered;
    asked = asked_all are.asked;
    started = are.started;
    all = are.all ∙ forgets_alike table (decisions (without_scripts table) turn.kids answers ++ steps_of_starts are.order turn.now flags)
        ∙ ap (λ (l : List TurnStep). with_forgets table (l ++ steps_of_starts are.order turn.now flags))
        (decisions_alike table turn.kids answers);
  }

  pub first_alike : (flags : List Bool) (steps : List TurnStep) → AreFirstSteps turn (without_scripts table) answers flags steps
      → AreFirstSteps turn table answers flags steps
  first_alike flags steps (inl first) = inl (record {
    few = subst (λ (l : List Kid). Rattle.std.proofs.Common.◌≤◌ (length answers) (length l)) (asked_alike table turn.kids) first.few;
    none = first.none;
    prefix = (first.prefix.0, sym (decisions_alike table turn.kids answers) ∙ first.prefix.1);
  })
  first_alike flags steps (inr (inl first)) = inr (inl (record {
    order = first.order;
    ordered = order_alike turn table first.order first.ordered;
    asked = asked_all first.asked;
    few = first.few;
    prefix = (
      first.prefix.0,
      ap (λ (l : List TurnStep). l ++ steps_of_starts first.order turn.now flags) (sym (decisions_alike table turn.kids answers))
          ∙ first.prefix.1,
    );
  }))
  first_alike flags steps (inr (inr all)) = inr (inr (all.0, turn_alike flags all.0 all.1, all.2))

pub kids_after_alike : (table : JobTable) (steps : List TurnStep) (before added after : List Kid)
    → AreKidsAfter (without_scripts table) steps before added after → AreKidsAfter table steps before added after
kids_after_alike table steps before added after are = record {
  same = subst (λ (l : List Kid). IsPermutation (l ++ added) after) (kept_alike table steps before) are.same;
  ordered = are.ordered;
}
