-- A part of a turn (own): what it made, asked and started, and what it leaves.
use Rattle.std.specs.Prelude.{◌≡◌, ◌++◌, [], Bool, true, List, Result, Ok, Err, IfErr, IfOk, map}
use Rattle.host_calls.specs.declared.child.Asked.{Asked}
use Rattle.host_calls.specs.declared.child.Handed.{Handed}
use Rattle.host_calls.specs.Causes.{HasCause}
use Rattle.host_calls.specs.Session.{IsInside, KeepsCounts, Session}
use Rattle.host_calls.specs.World.{World}
use Rattle.spool_model.specs.JobTable.{JobTable}
use Rattle.spool_model.specs.Steps.{after_steps}
use Rattle.step_runs.specs.Current.{IsCurrent, Kept}
use Rattle.step_runs.specs.Made.{AreMade, AreStopped, flags_of}
use Rattle.host_calls.specs.declared.store_fault.StoreFault.{StoreFault}
use Rattle.host_calls.specs.declared.store_fault.StoreFault.TheVariants.{FileFault}
use Rattle.host_calls.specs.StoreFaults.{IsOfStep}
use Rattle.daemon_turn.specs.declared.kid.Kid.{Kid}
use Rattle.spool_model.specs.declared.turn_step.TurnStep.{TurnStep}
use Rattle.daemon_turn.specs.Kids.{started_numbers}
use Rattle.spool_model.specs.StepsOf.{steps_of_turn}

-- The steps of a part of a turn, the next one that may have taken effect where it was stopped, the questions, whether a
-- child came of each start, and the children that came.
pub record TurnPart : Type 0 where
  pub steps : List TurnStep
  pub next : List TurnStep
  pub questions : List Asked
  pub flags : List Bool
  pub added : List Kid

-- a part that polls and starts nothing
abbrev pub quiet_part : List TurnStep → List TurnStep → TurnPart
quiet_part steps next = record { steps = steps; next = next; questions = []; flags = []; added = [] }

-- one part after another
abbrev pub joined_parts : TurnPart → TurnPart → TurnPart
joined_parts first later = record {
  steps = first.steps ++ later.steps;
  next = later.next;
  questions = first.questions ++ later.questions;
  flags = first.flags ++ later.flags;
  added = first.added ++ later.added;
}

-- what is left where the steps were made, and where they were stopped
abbrev pub TurnPartEnds : JobTable → TurnPart → List Handed → World → World → Result Kept StoreFault → Type 0
TurnPartEnds table part given old new (Ok kept) = AreMade table (steps_of_turn part.steps) given part.questions kept old new
TurnPartEnds table part given old new (Err fault) =
    AreStopped table (steps_of_turn part.steps) (steps_of_turn part.next) given part.questions old new

-- these were started: whether a child came of each, and the numbers of the children
pub record StartsPart (table : JobTable) (part : TurnPart) (old new : World) (result : Result Kept StoreFault) : Type 0 where
  pub given : List Handed
  pub flagged : flags_of given ≡ part.flags
  pub numbered : started_numbers given ≡ map (λ kid. kid.number) part.added
  pub ends : TurnPartEnds table part given old new result

-- The part of a turn was made, or stopped by a file fault or an out-of-memory error.
pub record MakesPart (tells : Bool) (before after : Session) (old new : World) (kept : Kept) (part : TurnPart)
    (result : Result Kept StoreFault) : Type 0 where
  pub inside : IsInside after
  pub counts : KeepsCounts before after
  pub cause : HasCause FileFault before.file_faults after.file_faults result
  pub faults : IfErr result IsOfStep
  pub children : after.children ≡ before.children ++ map (λ kid. kid.child) part.added
  pub table_is : IfOk result (λ store. store.table ≡ after_steps kept.table (steps_of_turn part.steps))
  pub whole : IfOk result (λ store. part.next ≡ [])
  pub files : tells ≡ true → (table : JobTable) → IsCurrent kept old.now.directory table → StartsPart table part old new result

-- The next part may be made: a session is on, and on a host that exposes its files what is kept is current.
pub record MayMakePart (tells : Bool) (session : Session) (world : World) (kept : Kept) : Type 0 where
  pub inside : IsInside session
  pub current : tells ≡ true → (table : JobTable) × IsCurrent kept world.now.directory table
