-- One more call after steps that were made: for the turns of a loop.
use Rattle.std.proofs.Common.{◌≡◌, ℕ, ℤ, Bool, List, [], ◌∷◌, ◌++◌, append-nil, map, sym, subst}
use Rattle.std.specs.Prelude.{Option, Ok, Err}
use Rattle.host_calls.specs.declared.child.Asked.{Asked}
use Rattle.host_calls.specs.declared.child.Child.{Child}
use Rattle.host_calls.specs.declared.child.Ending.{Ending}
use Rattle.host_calls.specs.declared.child.Handed.{Handed}
use Rattle.host_calls.specs.Directory.{Directory}
use Rattle.host_calls.specs.World.{Asks, World}
use Rattle.spool_model.specs.declared.step.Step.{Step}
use Rattle.spool_model.specs.declared.step.Step.TheVariants.{Start}
use Rattle.spool_model.specs.JobTable.{JobTable}
use Rattle.spool_model.specs.Steps.{AreLegal, IsLegal, after_steps}
use Rattle.step_runs.specs.WithoutScripts.{step_without_script}
use Rattle.step_runs.specs.Calls.{StoreCall}
use Rattle.step_runs.specs.Current.{IsCurrent, Kept}
use Rattle.step_runs.specs.Hands.{IsStartOf, StartNothing}
use Rattle.step_runs.specs.Made.{AreMade, AreStopped, IsStarted, flags_of}
use Rattle.step_runs.proofs.WithoutScriptsLemmas.{legal_as_on_the_table, lists_legal_as_on_the_table}
use Rattle.step_runs.proofs.MadeLemmas.{calls_make_their_steps, calls_stop_at_their_step, made_steps_are_stopped, questions_make_no_step, steps_are_made_after, steps_are_stopped_after}

-- what is legal on the table that is kept is legal on the table that the directory shows
pub legal_when_kept : (kept : Kept) (directory : Directory) (table : JobTable) (step : Step) → IsCurrent kept directory table →
    IsLegal kept.table (step_without_script step) → IsLegal table step
legal_when_kept kept directory table step current legal =
    (legal_as_on_the_table table step).0 (subst (λ of. IsLegal of (step_without_script step)) current.without_scripts_is legal)

pub all_legal_when_kept : (kept : Kept) (directory : Directory) (table : JobTable) (steps : List Step) → IsCurrent kept directory table →
    AreLegal kept.table (map step_without_script steps) → AreLegal table steps
all_legal_when_kept kept directory table steps current legal =
    (lists_legal_as_on_the_table table steps).0 (subst (λ of. AreLegal of (map step_without_script steps)) current.without_scripts_is legal)

-- After these steps, which were made:
module _ (table : JobTable) (done : List Step) (given : List Handed) (questions : List Asked) (kept : Kept) (old middle new : World)
    (made : AreMade table done given questions kept old middle) where
  -- a call of the store makes its step
  pub step_after : {E : Type 0} (step : Step) (last : Kept) → IsLegal (after_steps table done) step → StartNothing (step ∷ []) →
      StoreCall {E = E} (after_steps table done) (step ∷ []) middle new (Ok last) →
      AreMade table (done ++ step ∷ []) given questions last old new
  step_after step last legal quiet call =
      subst (λ given. AreMade table (done ++ step ∷ []) given questions last old new) (append-nil given)
      (subst (λ questions. AreMade table (done ++ step ∷ []) (given ++ []) questions last old new) (append-nil questions)
      (steps_are_made_after table done (step ∷ []) given [] questions [] kept last old middle new made
      (calls_make_their_steps (after_steps table done) (step ∷ []) last middle new (legal, tt) quiet made.current.shows call.files
      call.current call.others)))

  -- what stops at once, stops after them
  pub stop_after : (next : List Step) → AreStopped (after_steps table done) [] next [] [] middle new →
      AreStopped table done next given questions old new
  stop_after next stopped =
      subst (λ done. AreStopped table done next given questions old new) (append-nil done)
      (subst (λ given. AreStopped table (done ++ []) next given questions old new) (append-nil given)
      (subst (λ questions. AreStopped table (done ++ []) next (given ++ []) questions old new) (append-nil questions)
      (steps_are_stopped_after table done [] next given [] questions [] kept old middle new made stopped)))

  -- a call of the store that fails stops at its step
  pub fault_after : {E : Type 0} (step : Step) (fault : E) → IsLegal (after_steps table done) step →
      StoreCall (after_steps table done) (step ∷ []) middle new (Err fault) → AreStopped table done (step ∷ []) given questions old new
  fault_after step fault legal call =
      stop_after (step ∷ []) (calls_stop_at_their_step (after_steps table done) step middle new legal made.current.shows call.files)

  -- a start is made, and its script started
  pub start_after : (number : ℕ) (second : ℤ) (flag : Bool) (last : Kept)
      → IsStarted (after_steps table done) number second flag last middle new →
      (handed : Handed) × IsStartOf (after_steps table done) number handed × (flags_of (handed ∷ []) ≡ flag ∷ [])
      × AreMade table (done ++ Start number second ∷ []) (given ++ handed ∷ []) questions last old new
  start_after number second flag last started = (
    started.handed,
    started.is,
    started.flagged,
    subst (λ questions. AreMade table (done ++ Start number second ∷ []) (given ++ started.handed ∷ []) questions last old new)
        (append-nil questions)
        (steps_are_made_after table done (Start number second ∷ []) given (started.handed ∷ []) questions [] kept last old
        middle new made started.made),
  )

  -- a question is asked
  pub question_after : (child : Child) (answer : Option Ending) → Asks child middle new (Ok answer) →
      AreMade table done given (questions ++ record { child = child; answer = answer } ∷ []) kept old new
  question_after child answer asks =
      subst (λ done. AreMade table done given (questions ++ record { child = child; answer = answer } ∷ []) kept old new) (append-nil done)
      (subst (λ given. AreMade table (done ++ []) given (questions ++ record { child = child; answer = answer } ∷ []) kept old new)
      (append-nil given)
      (steps_are_made_after table done [] given [] questions (record { child = child; answer = answer } ∷ []) kept kept old middle new made
      (questions_make_no_step (after_steps table done) kept child answer middle new made.current asks)))

  -- what keeps the world keeps what was made in it, as the end of a session where nobody else changes the directory
  pub nothing_after : new ≡ middle → AreMade table done given questions kept old new
  nothing_after same = subst (AreMade table done given questions kept old) (sym same) made

  pub rest_after : new ≡ middle → AreStopped table done [] given questions old new
  rest_after same = made_steps_are_stopped table done given questions kept old new (nothing_after same)

-- where it keeps the world, what was stopped in it is stopped
pub stopped_kept : (table : JobTable) (done next : List Step) (given : List Handed) (questions : List Asked) (old middle new : World) →
    new ≡ middle → AreStopped table done next given questions old middle → AreStopped table done next given questions old new
stopped_kept table done next given questions old middle new same stopped =
    subst (AreStopped table done next given questions old) (sym same) stopped
