-- Calls of the store that make steps one after another (own): when they may be made, and what results from it.
use Rattle.std.specs.Prelude.{◌≡◌, ◌≤◌, [], ◌∷◌, ℕ, Bool, true, List, Result, Ok, Err, IfOk, IfErr, drop, length, take}
use Rattle.host_calls.specs.Session.{CallsInside, IsInside, Session}
use Rattle.host_calls.specs.World.{TimePasses, World}
use Rattle.spool_model.specs.declared.step.Step.{Step}
use Rattle.spool_model.specs.declared.step.Step.TheVariants.{Remove, End, Interrupt, Forget}
use Rattle.spool_model.specs.JobTable.{JobTable}
use Rattle.spool_model.specs.Steps.{AreLegal, after_steps}
use Rattle.step_runs.specs.Current.{IsCurrent, Kept}
use Rattle.step_runs.specs.Made.{AreMade, AreStopped}
use Rattle.host_calls.specs.declared.store_fault.StoreFault.{StoreFault}
use Rattle.host_calls.specs.declared.store_fault.StoreFault.TheVariants.{FileFault}
use Rattle.host_calls.specs.StoreFaults.{IsOfStep}

-- the step draws no number, needs no script and starts nothing
abbrev pub IsChange : Step → Type 0
IsChange (Remove number) = Unit {0}
IsChange (End number ending) = Unit {0}
IsChange (Interrupt number) = Unit {0}
IsChange (Forget number) = Unit {0}
IsChange _ = ⊥

-- each of the steps is such a one
abbrev pub AreChanges : List Step → Type 0
AreChanges [] = Unit {0}
AreChanges (step ∷ later) = IsChange step × AreChanges later

-- The steps may be made: a session is on, they are such ones and legal, and on a host that exposes its files what is kept
-- is current.
pub record MayMakeSteps (tells : Bool) (session : Session) (world : World) (kept : Kept) (steps : List Step) : Type 0 where
  pub inside : IsInside session
  pub legal : AreLegal kept.table steps
  pub changes : AreChanges steps
  pub current : tells ≡ true → (table : JobTable) × IsCurrent kept world.now.directory table

-- what is left where so many of the steps were made: all of them, or so many more of them may have taken effect too
abbrev pub MakingEnds : JobTable → List Step → ℕ → ℕ → World → World → Result Kept StoreFault → Type 0
MakingEnds table steps made begun old new (Ok kept) = AreMade table steps [] [] kept old new
MakingEnds table steps made begun old new (Err fault) = AreStopped table (take made steps) (take begun (drop made steps)) [] [] old new

-- The steps were made, or the first of them, and a file fault or an out-of-memory error is answered. Nothing is
-- started.
pub record MakesSteps (tells : Bool) (before after : Session) (old new : World) (kept : Kept) (steps : List Step) (made : ℕ)
    (result : Result Kept StoreFault) : Type 0 where
  pub inside : CallsInside FileFault before after result
  pub faults : IfErr result IsOfStep
  pub table_is : IfOk result (λ store. store.table ≡ after_steps kept.table steps)
  pub begun : ℕ
  pub few : made ≤ length steps
  pub all : IfOk result (λ store. made ≡ length steps)
  pub goes_on : tells ≡ true → TimePasses old new
  pub files : tells ≡ true → (table : JobTable) → IsCurrent kept old.now.directory table →
      MakingEnds table steps made begun old new result
