-- Steps that are made one after another.
use Rattle.std.proofs.Common.{◌≡◌, ◌<◌, ◌+◌, ◌++◌, ℕ, Bool, true, List, [], ◌∷◌, add-one, append_assoc, drop, get_or, length, map, take, sym, ap, subst, ◌∙◌, refl, arith}
use Rattle.std.proofs.Math.Seq.{take-length, take-suc}
use Rattle.std.proofs.lemmas.List.{drop_more, take-append-drop}
use Rattle.std.specs.Prelude.{Result, Ok, Err}
use Rattle.host_calls.specs.Session.{CallsInside, IsInside, Session, StaysInside}
use Rattle.host_calls.specs.World.{TimePasses, World}
use Rattle.host_calls.proofs.WorldLemmas.{leaves_none, leaves_then, leaves_weaker}
use Rattle.spool_model.specs.declared.step.Step.{Step}
use Rattle.spool_model.specs.declared.step.Step.TheVariants.{Remove, End, Interrupt, Forget}
use Rattle.spool_model.specs.JobTable.{JobTable}
use Rattle.spool_model.specs.Steps.{AreLegal, IsLegal, after_step, after_steps}
use Rattle.step_runs.specs.WithoutScripts.{step_without_script}
use Rattle.step_runs.specs.Current.{IsCurrent, Kept}
use Rattle.step_runs.specs.Hands.{StartNothing}
use Rattle.step_runs.specs.Made.{AreMade, AreStopped}
use Rattle.step_runs.specs.Runs.{Runs}
use Rattle.step_runs.proofs.HandsLemmas.{steps_then}
use Rattle.step_runs.proofs.MadeLemmas.{no_steps_are_made}
use Rattle.step_runs.proofs.RunLemmas.{prefixes_run_as_the_steps}
use Rattle.step_runs.proofs.TurnLemmas.{fault_after, legal_when_kept, step_after}
use Rattle.host_calls.specs.declared.store_fault.StoreFault.{StoreFault}
use Rattle.host_calls.specs.declared.store_fault.StoreFault.TheVariants.{FileFault}
use Rattle.spool_store.specs.StepSequences.{AreChanges, IsChange, MakesSteps, MayMakeSteps}
use Rattle.spool_store.specs.OneStep.{MakesStep, MayStep}

-- such a step has no script, and starts nothing
plain : (step : Step) → IsChange step → (step_without_script step ≡ step) × StartNothing (step ∷ [])
plain (Remove number) change = (refl, tt)
plain (End number ending) change = (refl, tt)
plain (Interrupt number) change = (refl, tt)
plain (Forget number) change = (refl, tt)
plain _ change = absurd change

-- steps that are made of a list, each such a one
pub changes_made : {X : Type 0} (make : X → Step) (xs : List X) → ((x : X) → IsChange (make x)) → AreChanges (map make xs)
changes_made make [] each = tt
changes_made make (x ∷ xs) each = (each x, changes_made make xs each)

-- steps that were made, and those that may have taken effect too, are a prefix of all
pub made_prefix : {X : Type 0} (steps : List X) (made begun : ℕ)
    → (beyond : List X) × (steps ≡ (take made steps ++ take begun (drop made steps)) ++ beyond)
made_prefix {X} steps made begun = (
  drop begun (drop made steps),
  sym (take-append-drop made steps)
      ∙ ap (λ (l : List X). take made steps ++ l) (sym (take-append-drop begun (drop made steps)))
      ∙ sym (append_assoc (take made steps) (take begun (drop made steps)) (drop begun (drop made steps))),
)

-- so that they run as all of them do
pub stopped_runs : {table : JobTable} (steps : List Step) (made begun : ℕ) {old new : World} →
    AreStopped table (take made steps) (take begun (drop made steps)) [] [] old new → Runs table steps old new
stopped_runs {table} steps made begun {old} {new} stopped =
    prefixes_run_as_the_steps table _ steps old new (made_prefix steps made begun) stopped.run

-- so many of the steps were made
pub record HasMade (tells : Bool) (was now : Kept) (steps : List Step) (count : ℕ) (old new : World) : Type 0 where
  pub table_is : now.table ≡ after_steps was.table (take count steps)
  pub legal : AreLegal now.table (drop count steps)
  pub changes : AreChanges (drop count steps)
  pub goes_on : tells ≡ true → TimePasses old new
  pub made : tells ≡ true → (table : JobTable) → IsCurrent was old.now.directory table → AreMade table (take count steps) [] [] now old new

module _ {tells : Bool} {before : Session} {old : World} {was : Kept} {steps : List Step}
    (may : MayMakeSteps tells before old was steps) where
  pub none_made : HasMade tells was was steps 0 old old
  none_made = record {
    table_is = refl;
    legal = may.legal;
    changes = may.changes;
    goes_on = λ known. record { asked = refl; handed = refl; leaves = leaves_none (λ image handed. handed ≡ old.now.handed) old old refl };
    made = λ known table current. no_steps_are_made table was old current;
  }

  -- all steps were made
  pub all_made : {now : Kept} {count : ℕ} {after : Session} {new : World} → count ≡ length steps → StaysInside before after →
      HasMade tells was now steps count old new → MakesSteps tells before after old new was steps count (Ok now)
  all_made {now} {count} {after} {new} whole stays has =
      let all : take count steps ≡ steps = ap (λ (n : ℕ). take n steps) whole ∙ take-length steps in
      record {
        inside = record {
          stays = stays;
          cause = record {
            later = stays.counts.file_faults;
            rose = λ bad. (let impossible : ◌≡◌ {A = Result Kept StoreFault} (Ok now) (Err FileFault) = bad in cc);
          };
        };
        faults = tt;
        table_is = has.table_is ∙ ap (after_steps was.table) all;
        begun = 0;
        few = omega (arith, whole);
        all = whole;
        goes_on = has.goes_on;
        files = λ known table current. subst (λ (l : List Step). AreMade table l [] [] now old new) all (has.made known table current);
      }

  -- the next of the steps
  module _ {now : Kept} {count : ℕ} {middle : World} (step : Step) (below : count < length steps) (is : step ≡ get_or steps count step)
      (has : HasMade tells was now steps count old middle) where
    dropped : drop count steps ≡ step ∷ drop (count + 1) steps
    dropped = drop_more steps count step below ∙ ap (λ (one : Step). one ∷ drop (count + 1) steps) (sym is)

    taken : take (count + 1) steps ≡ take count steps ++ step ∷ []
    taken = ap (λ (n : ℕ). take n steps) (add-one count) ∙ take-suc steps count step below
        ∙ ap (λ (one : Step). take count steps ++ one ∷ []) (sym is)

    legal : IsLegal now.table step × AreLegal (after_step now.table step) (drop (count + 1) steps)
    legal = subst (AreLegal now.table) dropped has.legal

    changes : IsChange step × AreChanges (drop (count + 1) steps)
    changes = subst AreChanges dropped has.changes

    pub next_changes : IsChange step
    next_changes = changes.0

    pub may_step : {between : Session} → IsInside between → MayStep tells between middle now step
    may_step inside = record {
      inside = inside;
      legal = legal.0;
      current = λ known. (_, (has.made known (may.current known).0 (may.current known).1).current);
    }

    legal_on : (table : JobTable) → IsCurrent now middle.now.directory table → IsLegal table step
    legal_on table current =
        legal_when_kept now middle.now.directory table step current (subst (IsLegal now.table) (sym (plain step changes.0).0) legal.0)

    goes_after : {between after : Session} {new : World} {result : Result Kept StoreFault}
        → MakesStep tells between after middle new now step result → tells ≡ true → TimePasses old new
    goes_after {between} {after} {new} makes known =
        let first : (table : JobTable) × IsCurrent was old.now.directory table = may.current known in
        let call = (makes.files known _ (has.made known first.0 first.1).current).files in
        let so_far : TimePasses old middle = has.goes_on known in
        record {
          asked = call.asked ∙ so_far.asked;
          handed = call.handed ∙ so_far.handed;
          leaves = leaves_then _ old middle new so_far.leaves
              (leaves_weaker _ _ middle new (λ image handed left. left.1 ∙ so_far.handed) call.leaves);
        }

    pub one_made : {between after : Session} {last : Kept} {new : World} → MakesStep tells between after middle new now step (Ok last) →
        HasMade tells was last steps (count + 1) old new
    one_made {between} {after} {last} {new} makes = record {
      table_is = makes.table_is ∙ ap (λ (t : JobTable). after_step t step) has.table_is
          ∙ sym (ap (after_steps was.table) taken ∙ steps_then was.table (take count steps) (step ∷ []));
      legal = subst (λ (t : JobTable). AreLegal t (drop (count + 1) steps)) (sym makes.table_is) legal.1;
      changes = changes.1;
      goes_on = goes_after makes;
      made = λ known table current.
          let made : AreMade table (take count steps) [] [] now old middle = has.made known table current in
          subst (λ (l : List Step). AreMade table l [] [] last old new) (sym taken)
          (step_after table (take count steps) [] [] now old middle new made step last
          (legal_on _ made.current) (plain step changes.0).1 (makes.files known _ made.current));
    }

    pub one_stopped : {between after : Session} {fault : StoreFault} {new : World}
        → CallsInside {T = Kept} FileFault before after (Err fault) →
        MakesStep tells between after middle new now step (Err fault) → MakesSteps tells before after old new was steps count (Err fault)
    one_stopped {between} {after} {fault} {new} inside makes = record {
      inside = inside;
      faults = makes.faults;
      table_is = tt;
      begun = 1;
      few = omega (arith, below);
      all = tt;
      goes_on = goes_after makes;
      files = λ known table current.
          let made : AreMade table (take count steps) [] [] now old middle = has.made known table current in
          subst (λ (l : List Step). AreStopped table (take count steps) l [] [] old new) (sym (ap (λ (l : List Step). take 1 l) dropped))
          (fault_after table (take count steps) [] [] now old middle new made step fault (legal_on _ made.current)
          (makes.files known _ made.current));
    }
