-- Steps of different jobs don't disturb each other.
use Rattle.std.proofs.Common.{◌≡◌, ℕ, List, [], ◌∷◌, map, inl, inr, sym, subst, ◌∙◌, refl}
use Rattle.std.specs.Prelude.{Option, Some, None}
use Rattle.std.specs.FinMap as finite
use Rattle.spool_model.specs.declared.entry.Entry.TheVariants.{Done}
use Rattle.spool_model.specs.declared.fate.Fate.TheVariants as fate
use Rattle.spool_model.specs.declared.state.State.TheVariants.{Running}
use Rattle.spool_model.specs.JobTable.{JobEntry, JobTable, entry_at}
use Rattle.spool_model.specs.Steps.{AreLegal, IsLegal, after_step, after_steps, in_state, with_state}
use Rattle.spool_model.proofs.TableLemmas.{get-put_other, get-taken_other}
use Rattle.spool_shows.proofs.Membership.{Has, has_made}
use Rattle.spool_model.specs.declared.turn_step.TurnStep.{TurnStep}
use Rattle.spool_model.specs.declared.turn_step.TurnStep.TheVariants.{HandedOver, Ended, Interrupted, Forgotten}
use Rattle.spool_model.specs.StepsOf.{number_of_step, step_of, steps_of_turn}
use Rattle.step_runs.proofs.ApartLemmas.{Apart}

-- what another step leaves
pub entry_stays : (table : JobTable) (step : TurnStep) (number : ℕ) → (number ≡ number_of_step step → ⊥) →
    entry_at (after_step table (step_of step)) number ≡ entry_at table number
entry_stays table (HandedOver started second) number differ = by_found (finite.get table.entries started) where
  by_found : (found : Option JobEntry) → finite.get (with_state started (Running second) found table.entries) number ≡ entry_at table number
  by_found None = refl
  by_found (Some entry) = get-put_other table.entries started number (in_state (Running second) entry) differ
entry_stays table (Ended ended ending) number differ = get-put_other table.entries ended number (Done (fate.Finished ending)) differ
entry_stays table (Interrupted ended) number differ = get-put_other table.entries ended number (Done fate.Interrupted) differ
entry_stays table (Forgotten forgotten) number differ = get-taken_other table.entries forgotten number differ

-- and what other steps leave
pub entries_stay : (table : JobTable) (steps : List TurnStep) (number : ℕ) → (Has (map number_of_step steps) number → ⊥) →
    entry_at (after_steps table (steps_of_turn steps)) number ≡ entry_at table number
entries_stay table [] number none = refl
entries_stay table (step ∷ later) number none =
    entries_stay (after_step table (step_of step)) later number (λ has. none (inr has))
    ∙ entry_stays table step number (λ same. none (inl (sym same)))

-- whether a step is legal rests on the entry of its job alone
pub legal_alike : (one other : JobTable) (step : TurnStep) → entry_at other (number_of_step step) ≡ entry_at one (number_of_step step) →
    IsLegal one (step_of step) → IsLegal other (step_of step)
legal_alike one other (HandedOver number second) same legal = (legal.0, same ∙ legal.1)
legal_alike one other (Ended number ending) same legal = (legal.0, legal.1, same ∙ legal.2)
legal_alike one other (Interrupted number) same legal = (legal.0, legal.1, same ∙ legal.2)
legal_alike one other (Forgotten number) same legal = (legal.0, same ∙ legal.1)

-- steps of different jobs are legal one after another, where each of them is
pub legal_apart : (table : JobTable) (steps : List TurnStep) → ((step : TurnStep) → Has steps step → IsLegal table (step_of step)) →
    Apart (map number_of_step steps) → AreLegal table (steps_of_turn steps)
legal_apart table [] each apart = tt
legal_apart table (step ∷ later) each apart = (
  each step (inl refl),
  legal_apart (after_step table (step_of step)) later
      (λ other has. legal_alike table (after_step table (step_of step)) other
      (entry_stays table step (number_of_step other)
      (λ same. apart.0 (subst (Has (map number_of_step later)) same (has_made number_of_step later other has))))
      (each other (inr has)))
      apart.1,
)
