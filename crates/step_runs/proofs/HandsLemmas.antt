-- What steps start, one part of them after another.
use Rattle.std.proofs.Common.{◌≡◌, List, [], ◌∷◌, ◌++◌, append_assoc, sym, ap, subst, ◌∙◌, refl, inl, inr}
use Rattle.host_calls.specs.declared.child.Handed.{Handed}
use Rattle.spool_model.specs.declared.step.Step.{Step}
use Rattle.spool_model.specs.declared.step.Step.TheVariants.{Draw, Accept, Remove, Start, End, Interrupt, Forget}
use Rattle.spool_model.specs.JobTable.{JobTable}
use Rattle.spool_model.specs.Steps.{IsPrefix, after_step, after_steps}
use Rattle.step_runs.specs.Hands.{Hands, HandsByNow, LacksLast, StartNothing}

-- the table after steps and others after them
pub steps_then : (table : JobTable) (first later : List Step) →
    after_steps table (first ++ later) ≡ after_steps (after_steps table first) later
steps_then table [] later = refl
steps_then table (step ∷ others) later = steps_then (after_step table step) others later

-- a prefix is one of more steps too
pub prefix_longer : (prefix first later : List Step) → IsPrefix prefix first → IsPrefix prefix (first ++ later)
prefix_longer prefix first later is = (is.0 ++ later, ap (λ (l : List Step). l ++ later) is.1 ∙ append_assoc prefix is.0 later)

-- steps and a prefix of those after them are a prefix of all
pub prefix_after : (first prefix later : List Step) → IsPrefix prefix later → IsPrefix (first ++ prefix) (first ++ later)
prefix_after first prefix later is = (is.0, ap (λ (l : List Step). first ++ l) is.1 ∙ sym (append_assoc first prefix is.0))

-- What steps start, and what others after them do
pub hands_then : (table : JobTable) (first later : List Step) (given more : List Handed) → Hands table first given →
    Hands (after_steps table first) later more → Hands table (first ++ later) (given ++ more)
hands_then table [] later given more before after = subst (λ (l : List Handed). Hands table later (l ++ more)) (sym before) after
hands_then table (step ∷ others) later given more before after = (
  before.0,
  before.1 ++ more,
  before.2,
  hands_then (after_step table step) others later before.1 more before.3 after,
  ap (λ (l : List Handed). l ++ more) before.4 ∙ append_assoc before.0 before.1 more,
)

-- where the last script of later steps is wanting, it is wanting after earlier steps too
pub lacks_then : (table : JobTable) (first later : List Step) (given more : List Handed) → Hands table first given →
    LacksLast (after_steps table first) later more → LacksLast table (first ++ later) (given ++ more)
lacks_then table first later given more before lacks = record {
  earlier = first ++ lacks.earlier;
  number = lacks.number;
  second = lacks.second;
  ends = ap (λ (l : List Step). first ++ l) lacks.ends ∙ sym (append_assoc first lacks.earlier (Start lacks.number lacks.second ∷ []));
  hands = hands_then table first lacks.earlier given more before lacks.hands;
}

-- what was started by now, after steps that have started all
pub by_now_then : (table : JobTable) (first later : List Step) (given more : List Handed) → Hands table first given →
    HandsByNow (after_steps table first) later more → HandsByNow table (first ++ later) (given ++ more)
by_now_then table first later given more before by_now = elim by_now [
  | inl all ↦ inl (hands_then table first later given more before all)
  | inr lacks ↦ inr (lacks_then table first later given more before lacks)
]

-- a prefix of steps that start nothing starts nothing
pub quiet_prefix : (table : JobTable) (prefix after : List Step) → StartNothing (prefix ++ after) → Hands table prefix []
quiet_prefix table [] after quiet = refl
quiet_prefix table (Draw ∷ others) after quiet = ([], [], refl, quiet_prefix (after_step table Draw) others after quiet, refl)
quiet_prefix table (Accept number job ∷ others) after quiet =
    ([], [], refl, quiet_prefix (after_step table (Accept number job)) others after quiet, refl)
quiet_prefix table (Remove number ∷ others) after quiet =
    ([], [], refl, quiet_prefix (after_step table (Remove number)) others after quiet, refl)
quiet_prefix table (Start number second ∷ others) after quiet = absurd quiet
quiet_prefix table (End number ending ∷ others) after quiet =
    ([], [], refl, quiet_prefix (after_step table (End number ending)) others after quiet, refl)
quiet_prefix table (Interrupt number ∷ others) after quiet =
    ([], [], refl, quiet_prefix (after_step table (Interrupt number)) others after quiet, refl)
quiet_prefix table (Forget number ∷ others) after quiet =
    ([], [], refl, quiet_prefix (after_step table (Forget number)) others after quiet, refl)

-- one step has started nothing, or is a start whose script is wanting
pub one_by_now : (table : JobTable) (step : Step) → HandsByNow table (step ∷ []) []
one_by_now table Draw = inl ([], [], refl, refl, refl)
one_by_now table (Accept number job) = inl ([], [], refl, refl, refl)
one_by_now table (Remove number) = inl ([], [], refl, refl, refl)
one_by_now table (Start number second) = inr (record { earlier = []; number = number; second = second; ends = refl; hands = refl })
one_by_now table (End number ending) = inl ([], [], refl, refl, refl)
one_by_now table (Interrupt number) = inl ([], [], refl, refl, refl)
one_by_now table (Forget number) = inl ([], [], refl, refl, refl)

-- a prefix of one step is that step or none
pub prefix_of_one : (table : JobTable) (step : Step) (prefix after : List Step) → step ∷ [] ≡ prefix ++ after →
    HandsByNow table prefix []
prefix_of_one table step [] after is = inl refl
prefix_of_one table step (one ∷ []) after is = one_by_now table one
prefix_of_one table step (one ∷ other ∷ others) after is = let impossible : ◌≡◌ {A = List Step} [] (other ∷ others ++ after) = cc in cc
