-- What is finished of running jobs is legal: whose numbers the steps have.
use Rattle.std.proofs.Common.{◌≡◌, ◌==◌, ◌++◌, ℕ, ℤ, Bool, true, false, not, List, [], ◌∷◌, map, filter, inl, inr, sym, ap, subst, ◌∙◌, refl}
use Rattle.std.specs.Prelude.{Option, Some, None}
use Rattle.std.proofs.lemmas.Bool.{and_parts}
use Rattle.std.proofs.lemmas.Bool.Decides.{eqb_tells}
use Rattle.std.proofs.lemmas.List.{map-append}
use Rattle.host_calls.specs.declared.child.Ending.{Ending}
use Rattle.spool_model.specs.declared.entry.Entry.TheVariants.{Live, Done}
use Rattle.spool_model.specs.declared.job.Job.{Job}
use Rattle.spool_model.specs.declared.row.Row.{Row}
use Rattle.spool_model.specs.declared.state.State.TheVariants.{Pending, Running}
use Rattle.spool_model.specs.JobTable.{IsRunning, JobEntry, JobTable, entry_at}
use Rattle.spool_model.specs.Lists.{live_rows, is_running}
use Rattle.spool_model.specs.Steps.{AreLegal, IsLegal}
use Rattle.spool_shows.proofs.Membership.{Has, any_passes, filtered_has, has_either, has_made, made_has}
use Rattle.daemon_turn.specs.declared.kid.Kid.{Kid}
use Rattle.spool_model.specs.declared.turn_step.TurnStep.{TurnStep}
use Rattle.spool_model.specs.declared.turn_step.TurnStep.TheVariants.{Ended, Interrupted}
use Rattle.daemon_turn.specs.Decisions.{end_steps, has_kid, interrupts, is_job_without_kid, is_running_entry, runs_in}
use Rattle.spool_model.specs.StepsOf.{number_of_step, step_of, steps_of_turn}
use Rattle.step_runs.proofs.ApartLemmas.{Apart, apart_append, apart_filter}
use Rattle.daemon_turn.proofs.LegalLemmas.{legal_apart}
use Rattle.step_runs.proofs.RowLemmas.{row_held, rows_apart}

-- a job that runs by its entry
running_entry : (found : Option JobEntry) → is_running_entry found ≡ true
    → (job : Job) × (second : ℤ) × (found ≡ Some (Live job (Running second)))
running_entry None is = let impossible : false ≡ true = is in cc
running_entry (Some (Done fate)) is = let impossible : false ≡ true = is in cc
running_entry (Some (Live job Pending)) is = let impossible : false ≡ true = is in cc
running_entry (Some (Live job (Running second))) is = (job, second, refl)

pub kid_runs : (table : JobTable) (kid : Kid) → runs_in table kid ≡ true → IsRunning table kid.number
kid_runs table kid is = running_entry (entry_at table kid.number) is

-- a job that runs by its row
row_runs : (table : JobTable) (row : Row) → Has (live_rows table) row → is_running row.state ≡ true → IsRunning table row.number
row_runs table row has is =
    let held : (job : Job) × (entry_at table row.number ≡ Some (Live job row.state)) = row_held table row has in
    running_entry (entry_at table row.number) (ap is_running_entry held.1 ∙ is)

-- each child is that of a job that runs
abbrev pub EachRuns : JobTable → List Kid → Type 0
EachRuns table kids = (kid : Kid) → Has kids kid → runs_in table kid ≡ true

-- the children that the turn polls run
pub asked_run : (table : JobTable) (kids : List Kid) → EachRuns table (filter (runs_in table) kids)
asked_run table kids kid has = (filtered_has (runs_in table) kids kid has).1

-- an interrupt is that of a row without a child
pub interrupt_of : (table : JobTable) (kids : List Kid) (step : TurnStep) → Has (interrupts table kids) step →
    (row : Row) × Has (live_rows table) row × (is_job_without_kid kids row ≡ true) × (Interrupted row.number ≡ step)
interrupt_of table kids step has =
    let made : (row : Row) × Has (filter (is_job_without_kid kids) (live_rows table)) row × (Interrupted row.number ≡ step) =
    made_has (λ (row : Row). Interrupted row.number) (filter (is_job_without_kid kids) (live_rows table)) step has in
    let kept : Has (live_rows table) made.0 × (is_job_without_kid kids made.0 ≡ true) =
    filtered_has (is_job_without_kid kids) (live_rows table) made.0 made.1 in
    (made.0, kept.0, kept.1, made.2)

-- an end is that of a child
pub end_of_kid : (kids : List Kid) (answers : List (Option Ending)) (step : TurnStep) → Has (end_steps kids answers) step →
    (kid : Kid) × (ending : Ending) × Has kids kid × (Ended kid.number ending ≡ step)
end_of_kid [] answers step has = absurd has
end_of_kid (kid ∷ kids) [] step has = absurd has
end_of_kid (kid ∷ kids) (None ∷ answers) step has =
    let rest : (one : Kid) × (ending : Ending) × Has kids one × (Ended one.number ending ≡ step) = end_of_kid kids answers step has in
    (rest.0, rest.1, inr rest.2, rest.3)
end_of_kid (kid ∷ kids) (Some ending ∷ answers) step (inl same) = (kid, ending, inl refl, same)
end_of_kid (kid ∷ kids) (Some ending ∷ answers) step (inr has) =
    let rest : (one : Kid) × (other : Ending) × Has kids one × (Ended one.number other ≡ step) = end_of_kid kids answers step has in
    (rest.0, rest.1, inr rest.2, rest.3)

abbrev kid_number : Kid → ℕ
kid_number kid = kid.number

end_numbers : (kids : List Kid) (answers : List (Option Ending)) (number : ℕ) → Has (map number_of_step (end_steps kids answers)) number
    → Has (map kid_number kids) number
end_numbers kids answers number has =
    let made : (step : TurnStep) × Has (end_steps kids answers) step × (number_of_step step ≡ number) =
    made_has number_of_step (end_steps kids answers) number has in
    let of : (kid : Kid) × (ending : Ending) × Has kids kid × (Ended kid.number ending ≡ made.0) = end_of_kid kids answers made.0 made.1 in
    subst (Has (map kid_number kids)) (ap number_of_step of.3 ∙ made.2) (has_made kid_number kids of.0 of.2)

pub ends_apart : (kids : List Kid) (answers : List (Option Ending)) → Apart (map kid_number kids)
    → Apart (map number_of_step (end_steps kids answers))
ends_apart [] answers apart = tt
ends_apart (kid ∷ kids) [] apart = tt
ends_apart (kid ∷ kids) (None ∷ answers) apart = ends_apart kids answers apart.1
ends_apart (kid ∷ kids) (Some ending ∷ answers) apart =
    (λ has. apart.0 (end_numbers kids answers kid.number has), ends_apart kids answers apart.1)

numbers_of_rows : (rows : List Row) → map number_of_step (map (λ (row : Row). Interrupted row.number) rows)
    ≡ map (λ (row : Row). row.number) rows
numbers_of_rows [] = refl
numbers_of_rows (row ∷ rows) = ap (λ rest. row.number ∷ rest) (numbers_of_rows rows)

-- a child that exists is found
kid_found : (kids : List Kid) (kid : Kid) (number : ℕ) → Has kids kid → kid.number ≡ number → has_kid kids number ≡ true
kid_found kids kid number has same = any_passes (λ one. one.number == number) kids kid has (a_test kid.number number same) where
  a_test : (a b : ℕ) → a ≡ b → (a == b) ≡ true
  a_test a b same = elim (eqb_tells a b) [ inl is ↦ is.0 | inr other ↦ absurd (other.1 same) ]

not_true : (b : Bool) → b ≡ true → not b ≡ true → ⊥
not_true true is other = cc
not_true false is other = cc

-- The steps of decisions: each is of another job, which runs.
module _ (table : JobTable) (kids : List Kid) (apart : Apart (map kid_number kids)) (run : EachRuns table kids)
    (answers : List (Option Ending)) where
  abbrev decided : List TurnStep
  decided = interrupts table kids ++ end_steps kids answers

  decided_numbers : map number_of_step decided
      ≡ map (λ (row : Row). row.number) (filter (is_job_without_kid kids) (live_rows table)) ++ map number_of_step (end_steps kids answers)
  decided_numbers =
      map-append number_of_step (interrupts table kids) (end_steps kids answers)
      ∙ ap (λ (numbers : List ℕ). numbers ++ map number_of_step (end_steps kids answers))
      (numbers_of_rows (filter (is_job_without_kid kids) (live_rows table)))

  -- a row without a child has no child
  no_kid : (number : ℕ) → Has (map (λ (row : Row). row.number) (filter (is_job_without_kid kids) (live_rows table))) number
      → Has (map number_of_step (end_steps kids answers)) number → ⊥
  no_kid number has other =
      let row : (row : Row) × Has (filter (is_job_without_kid kids) (live_rows table)) row × (row.number ≡ number) =
      made_has (λ (row : Row). row.number) (filter (is_job_without_kid kids) (live_rows table)) number has in
      let kid : (kid : Kid) × Has kids kid × (kid.number ≡ number) =
      made_has kid_number kids number (end_numbers kids answers number other) in
      let left : is_job_without_kid kids row.0 ≡ true = (filtered_has (is_job_without_kid kids) (live_rows table) row.0 row.1).1 in
      not_true (has_kid kids row.0.number) (kid_found kids kid.0 row.0.number kid.1 (kid.2 ∙ sym row.2))
      (and_parts (is_running row.0.state) (not (has_kid kids row.0.number)) left).1

  pub decided_apart : Apart (map number_of_step decided)
  decided_apart = subst Apart (sym decided_numbers)
      (apart_append (map (λ (row : Row). row.number) (filter (is_job_without_kid kids) (live_rows table)))
      (map number_of_step (end_steps kids answers))
      (apart_filter (λ (row : Row). row.number) (is_job_without_kid kids) (live_rows table) (rows_apart table))
      (ends_apart kids answers apart) no_kid)

  pub decided_legal : (step : TurnStep) → Has decided step → IsLegal table (step_of step)
  decided_legal step has = elim (has_either (interrupts table kids) (end_steps kids answers) step has) [
    | inl interrupted ↦
        let of : (row : Row) × Has (live_rows table) row × (is_job_without_kid kids row ≡ true) × (Interrupted row.number ≡ step) =
        interrupt_of table kids step interrupted in
        subst (λ (one : TurnStep). IsLegal table (step_of one)) of.3
        (row_runs table of.0 of.1 (and_parts (is_running of.0.state) (not (has_kid kids of.0.number)) of.2).0)
    | inr ended ↦
        let of : (kid : Kid) × (ending : Ending) × Has kids kid × (Ended kid.number ending ≡ step) = end_of_kid kids answers step ended in
        subst (λ (one : TurnStep). IsLegal table (step_of one)) of.3 (kid_runs table of.0 (run of.0 of.2))
  ]

  pub decisions_legal : AreLegal table (steps_of_turn decided)
  decisions_legal = legal_apart table decided decided_legal decided_apart

  -- each number of a step is that of a job that runs
  pub decided_run : (number : ℕ) → Has (map number_of_step decided) number → IsRunning table number
  decided_run number has =
      let made : (step : TurnStep) × Has decided step × (number_of_step step ≡ number) = made_has number_of_step decided number has in
      elim (has_either (interrupts table kids) (end_steps kids answers) made.0 made.1) [
        | inl interrupted ↦
            let of : (row : Row) × Has (live_rows table) row × (is_job_without_kid kids row ≡ true) × (Interrupted row.number ≡ made.0) =
            interrupt_of table kids made.0 interrupted in
            subst (IsRunning table) (ap number_of_step of.3 ∙ made.2)
            (row_runs table of.0 of.1 (and_parts (is_running of.0.state) (not (has_kid kids of.0.number)) of.2).0)
        | inr ended ↦
            let of : (kid : Kid) × (ending : Ending) × Has kids kid × (Ended kid.number ending ≡ made.0) =
            end_of_kid kids answers made.0 ended in
            subst (IsRunning table) (ap number_of_step of.3 ∙ made.2) (kid_runs table of.0 (run of.0 of.2))
      ]
