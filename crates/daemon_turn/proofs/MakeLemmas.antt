-- Steps that are made one after another, and written down.
use Rattle.std.proofs.Common.{◌≡◌, ◌+◌, ◌++◌, ℕ, zero, suc, Bool, List, [], ◌∷◌, append-nil, drop, length, take, sym, ap, subst, ◌∙◌, refl, arith}
use Rattle.std.proofs.Math.Seq.{take-length}
use Rattle.std.proofs.lemmas.List.{drop-map, length-map, take-map}
use Rattle.std.proofs.lemmas.Result.{err_from_is_err_and}
use Rattle.std.proofs.lemmas.Simd.{map-map}
use Rattle.std.specs.Prelude.{IsErrAnd, Result, Ok, Err}
use Rattle.host_calls.specs.Session.{IsInside, Session}
use Rattle.host_calls.specs.World.{World}
use Rattle.spool_model.specs.declared.step.Step.{Step}
use Rattle.spool_model.specs.Lists.{surplus}
use Rattle.step_runs.specs.Current.{Kept}
use Rattle.step_runs.specs.Made.{AreStopped}
use Rattle.step_runs.proofs.MadeLemmas.{no_steps_are_made}
use Rattle.host_calls.specs.declared.store_fault.StoreFault.{StoreFault}
use Rattle.host_calls.specs.declared.store_fault.StoreFault.TheVariants.{Memory}
use Rattle.spool_store.specs.StepSequences.{MakesSteps, MayMakeSteps}
use Rattle.spool_store.proofs.MakeLemmas.{made_prefix}
use Rattle.spool_store.proofs.SurplusLemmas.{may_forget}
use Rattle.host_calls.proofs.SessionLemmas.{stays_inside}
use Rattle.spool_model.specs.declared.turn_step.TurnStep.{TurnStep}
use Rattle.spool_model.specs.declared.turn_step.TurnStep.TheVariants.{Forgotten}
use Rattle.daemon_turn.specs.StartOrder.{forgotten_steps}
use Rattle.spool_model.specs.StepsOf.{step_of, steps_of_turn}
use Rattle.daemon_turn.specs.inside.TurnParts.{MayMakePart}
use Rattle.daemon_turn.specs.inside.MadeSteps.{MakesAll}
use Rattle.daemon_turn.proofs.GoLemmas.{memory_goes}

-- there was no memory for the steps
pub nothing_made : {tells : Bool} {session : Session} {world : World} {kept : Kept} (steps was is : List TurnStep)
    (result : Result Kept StoreFault) →
    IsErrAnd result (λ other. other ≡ Memory) → IsInside session → is ≡ was
    → MakesAll tells session session world world kept steps was is result
nothing_made {tells} {session} {world} {kept} steps was is result err inside same =
    let fault = err_from_is_err_and result err in
    subst (MakesAll tells session session world world kept steps was is)
    (sym (fault.1 ∙ ap (λ (of : StoreFault). Err of) fault.2)) (record {
      made = [];
      next = [];
      goes = memory_goes tells session session world world kept [] (stays_inside session inside)
          (λ known now table current. no_steps_are_made table now world current);
      prefix = (steps, refl);
      all = tt;
      written = same ∙ sym (append-nil was);
    })

-- they were made, or the first of them
pub made_all : {tells : Bool} {before after : Session} {old new : World} {kept : Kept} (steps was is : List TurnStep) {made : ℕ}
    (result : Result Kept StoreFault) →
    MakesSteps tells before after old new kept (steps_of_turn steps) made result → is ≡ was ++ take made steps
    → MakesAll tells before after old new kept steps was is result
made_all {tells} {before} {after} {old} {new} {kept} steps was is {made} (Ok store) makes written = record {
  made = steps;
  next = [];
  goes = record {
    inside = makes.inside.stays.inside;
    counts = makes.inside.stays.counts;
    cause = makes.inside.cause;
    faults = tt;
    children = makes.inside.stays.children ∙ sym (append-nil before.children);
    table_is = makes.table_is;
    whole = refl;
    files = λ known table current. record { given = []; flagged = refl; numbered = refl; ends = makes.files known table current };
  };
  prefix = ([], sym (append-nil (steps ++ []) ∙ append-nil steps));
  all = refl;
  written = written
      ∙ ap (λ (l : List TurnStep). was ++ l) (ap (λ (n : ℕ). take n steps) (makes.all ∙ length-map steps step_of) ∙ take-length steps);
}
made_all {tells} {before} {after} {old} {new} {kept} steps was is {made} (Err fault) makes written = record {
  made = take made steps;
  next = take makes.begun (drop made steps);
  goes = record {
    inside = makes.inside.stays.inside;
    counts = makes.inside.stays.counts;
    cause = makes.inside.cause;
    faults = makes.faults;
    children = makes.inside.stays.children ∙ sym (append-nil before.children);
    table_is = tt;
    whole = tt;
    files = λ known table current. record {
      given = [];
      flagged = refl;
      numbered = refl;
      ends = subst (λ (l : List Step). AreStopped table (steps_of_turn (take made steps)) l [] [] old new)
          (ap (take makes.begun) (drop-map step_of made steps) ∙ take-map step_of makes.begun (drop made steps))
          (subst (λ (l : List Step). AreStopped table l (take makes.begun (drop made (steps_of_turn steps))) [] [] old new)
          (take-map step_of made steps) (makes.files known table current));
    };
  };
  prefix = made_prefix steps made makes.begun;
  all = tt;
  written = written;
}

-- what is written down, and then cut after those that were made
pub written_part : (was steps : List TurnStep) (made count : ℕ) → count ≡ length was + made
    → take count (was ++ steps) ≡ was ++ take made steps
written_part [] steps made count is = ap (λ (n : ℕ). take n steps) (let same : count ≡ made = omega (arith, is) in same)
written_part (step ∷ was) steps made zero is = absurd (omega (arith, is))
written_part (step ∷ was) steps made (suc count) is =
    ap (λ (l : List TurnStep). step ∷ l) (written_part was steps made count (omega (arith, is)))

-- what is too much may be forgotten
pub may_forget_all : {tells : Bool} {session : Session} {world : World} {kept : Kept} (steps : List TurnStep)
    → MayMakePart tells session world kept → steps ≡ forgotten_steps kept.table →
    MayMakeSteps tells session world kept (steps_of_turn steps)
may_forget_all {tells} {session} {world} {kept} steps may is =
    may_forget (steps_of_turn steps) (ap steps_of_turn is ∙ map-map step_of Forgotten (surplus kept.table)) may.inside may.current
