-- One job is started and its script started (own).
use Rattle.std.specs.Prelude.{◌≡◌, ◌++◌, [], ◌∷◌, ℕ, ℤ, Bool, true, List, Option, Result, Ok, Err, IfOk, IfErr, is_some, option_to_list}
use Rattle.host_calls.specs.declared.child.Child.{Child}
use Rattle.host_calls.specs.Causes.{HasCause}
use Rattle.host_calls.specs.Session.{IsInside, KeepsCounts, Session}
use Rattle.host_calls.specs.World.{World}
use Rattle.spool_model.specs.declared.step.Step.TheVariants.{Start}
use Rattle.spool_model.specs.JobTable.{JobTable}
use Rattle.spool_model.specs.Steps.{after_step}
use Rattle.step_runs.specs.Current.{IsCurrent, Kept}
use Rattle.step_runs.specs.Made.{AreStopped, IsStarted}
use Rattle.host_calls.specs.declared.store_fault.StoreFault.{StoreFault}
use Rattle.host_calls.specs.declared.store_fault.StoreFault.TheVariants.{FileFault}
use Rattle.host_calls.specs.StoreFaults.{IsOfStep}

-- the children that a call adds, by what it answers
abbrev pub added_by_start : Result (Kept × Option Child) StoreFault → List Child
added_by_start (Ok started) = option_to_list started.1
added_by_start (Err fault) = []

-- what a start leaves: it took effect and its script was started, or nothing was, and the start may have taken effect
-- or not
abbrev pub HandingEnds : JobTable → ℕ → ℤ → World → World → Result (Kept × Option Child) StoreFault → Type 0
HandingEnds table number second old new (Ok started) = IsStarted table number second (is_some started.1) started.0 old new
HandingEnds table number second old new (Err fault) = AreStopped table [] (Start number second ∷ []) [] [] old new

-- The job was started, and a child came of it or none; or a file fault or an out-of-memory error is answered, and no
-- child came.
pub record HandsJobOver (tells : Bool) (before after : Session) (old new : World) (kept : Kept) (number : ℕ) (second : ℤ)
    (result : Result (Kept × Option Child) StoreFault) : Type 0 where
  pub inside : IsInside after
  pub counts : KeepsCounts before after
  pub children : after.children ≡ before.children ++ added_by_start result
  pub cause : HasCause FileFault before.file_faults after.file_faults result
  pub faults : IfErr result IsOfStep
  pub table_is : IfOk result (λ started. started.0.table ≡ after_step kept.table (Start number second))
  pub files : tells ≡ true → (table : JobTable) → IsCurrent kept old.now.directory table →
      HandingEnds table number second old new result
