-- What follows of every turn: why it ends as it does, and that a directory that shows a table comes to show no damage
-- (own).
use Rattle.std.specs.Prelude.{◌≡◌, Bool, true, List, Ok}
use Rattle.host_calls.specs.Causes.{Rose}
use Rattle.host_calls.specs.Directory.{Files, IsImage}
use Rattle.host_calls.specs.World.{HasEachImage, LeavesOnly, reading}
use Rattle.spool_model.specs.JobTable.{JobTable}
use Rattle.spool_shows.specs.Shown.{shown_by}
use Rattle.step_runs.specs.Good.{IsGood}
use Rattle.daemon_turn.specs.declared.turn_input.TurnInput.{TurnInput}
use Rattle.host_calls.specs.declared.turn_end.TurnEnd.{TurnEnd}
use Rattle.host_calls.specs.declared.turn_end.TurnEnd.TheVariants.{Done, Memory}
use Rattle.spool_model.specs.declared.turn_step.TurnStep.{TurnStep}
use Rattle.daemon_turn.specs.TurnOutcome.{DaemonAt, TurnsTo}

-- all steps were made, or memory ran out
abbrev pub IsDoneOrMemory : TurnEnd → Type 0
IsDoneOrMemory Done = Unit {0}
IsDoneOrMemory Memory = Unit {0}
IsDoneOrMemory _ = ⊥

-- where the reading shows a table, and no count of files or of taken locks rose, the turn is done or wants memory
abbrev pub TurnsAreDone : Type 0
TurnsAreDone = (tells alone : Bool) (at : TurnInput) (old new : DaemonAt) (end : TurnEnd) (steps : List TurnStep) →
    TurnsTo tells alone at old new end steps → tells ≡ true → alone ≡ true →
    (table : JobTable) → shown_by (reading old.world) ≡ Ok table →
    ¬ (Rose old.session.taken new.session.taken) → ¬ (Rose old.session.file_faults new.session.file_faults) → IsDoneOrMemory end

-- where the reading shows a table, it shows one after a turn too
abbrev pub ReadingsStayGood : Type 0
ReadingsStayGood = (tells alone : Bool) (at : TurnInput) (old new : DaemonAt) (end : TurnEnd) (steps : List TurnStep) →
    TurnsTo tells alone at old new end steps → tells ≡ true → alone ≡ true → IsGood (reading old.world) →
    IsGood (reading new.world)

-- each image of each moment shows a table, and so does each that the end leaves
pub record StaysGood (old new : DaemonAt) : Type 0 where
  pub leaves : LeavesOnly (λ image handed. IsGood image) old.world new.world
  pub now : HasEachImage (λ image handed. IsGood image) new.world.now

-- where each image shows a table, each that a turn leaves shows one
abbrev pub GoodDirectoriesStayGood : Type 0
GoodDirectoriesStayGood = (tells alone : Bool) (at : TurnInput) (old new : DaemonAt) (end : TurnEnd) (steps : List TurnStep) →
    TurnsTo tells alone at old new end steps → tells ≡ true → alone ≡ true →
    ((image : Files) → IsImage old.world.now.directory image → IsGood image) → StaysGood old new
