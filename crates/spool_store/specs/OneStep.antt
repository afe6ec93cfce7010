-- A call of the store that makes one step (own): when it may be made, and what results from it.
use Rattle.std.specs.Prelude.{◌≡◌, ◌==◌, ◌||◌, [], ◌∷◌, Bool, true, Result, IfOk, IfErr, if◌then◌else◌}
use Rattle.host_calls.specs.Session.{CallsInside, IsInside, Session}
use Rattle.host_calls.specs.World.{World}
use Rattle.spool_model.specs.declared.step.Step.{Step}
use Rattle.spool_model.specs.JobTable.{JobTable}
use Rattle.spool_model.specs.Steps.{IsLegal, after_step}
use Rattle.spool_shows.specs.Laws.{AddsMark}
use Rattle.start_journal.specs.declared.mark.Mark.{Mark}
use Rattle.start_journal.specs.JournalChange.{added, compacted}
use Rattle.start_journal.specs.Compaction.{wants_compaction}
use Rattle.start_journal.specs.Journals.{JournalRead}
use Rattle.step_runs.specs.Calls.{StoreCall}
use Rattle.step_runs.specs.Current.{IsCurrent, Kept}
use Rattle.host_calls.specs.declared.store_fault.StoreFault.{StoreFault}
use Rattle.host_calls.specs.declared.store_fault.StoreFault.TheVariants.{FileFault}
use Rattle.host_calls.specs.StoreFaults.{IsOfStep}

-- The step may be made: a session is on, the step is legal, and on a host that exposes its files what is kept is
-- current.
pub record MayStep (tells : Bool) (session : Session) (world : World) (kept : Kept) (step : Step) : Type 0 where
  pub inside : IsInside session
  pub legal : IsLegal kept.table step
  pub current : tells ≡ true → (table : JobTable) × IsCurrent kept world.now.directory table

-- no slot is free, or the journal wants compaction: then it is compacted before a mark is added
abbrev pub needs_room : JournalRead → Bool
needs_room journal = journal.free == 0 || wants_compaction journal.marks

-- the journal to which a mark is added: compacted exactly where it needs room
abbrev pub with_room : JournalRead → JournalRead
with_room journal = if needs_room journal then compacted journal else journal

-- the journal has one more mark, that of the step
pub record HasItsMark (kept : Kept) (step : Step) (store : Kept) : Type 0 where
  pub mark : Mark
  pub adds : AddsMark kept.table step mark
  pub journal : store.journal ≡ added (with_room kept.journal) mark

-- The step was made, or a file fault or an out-of-memory error is answered: what is kept then is the table after it
-- and the journal with its mark, and a crash at any moment leaves the table before it or after it.
pub record MakesStep (tells : Bool) (before after : Session) (old new : World)
    (kept : Kept) (step : Step) (result : Result Kept StoreFault) : Type 0 where
  pub inside : CallsInside FileFault before after result
  pub faults : IfErr result IsOfStep
  pub table_is : IfOk result (λ store. store.table ≡ after_step kept.table step)
  pub marked : IfOk result (HasItsMark kept step)
  pub files : tells ≡ true → (table : JobTable) → IsCurrent kept old.now.directory table → StoreCall table (step ∷ []) old new result
