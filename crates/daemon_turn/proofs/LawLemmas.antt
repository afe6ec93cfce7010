-- What follows of every turn.
use Rattle.std.proofs.Common.{◌≡◌, ◌++◌, List, sym, ◌∙◌, refl, inl, inr}
use Rattle.std.specs.Prelude.{Result, Ok, Err}
use Rattle.host_calls.specs.declared.damage.Damage.{Damage}
use Rattle.host_calls.specs.Directory.{Files, IsImage}
use Rattle.host_calls.specs.World.{LeavesOnly, World, reading}
use Rattle.host_calls.proofs.DirectoryLemmas.{reading_is_image}
use Rattle.host_calls.proofs.WorldLemmas.{at_end}
use Rattle.spool_model.specs.declared.step.Step.{Step}
use Rattle.spool_model.specs.JobTable.{JobTable}
use Rattle.spool_model.specs.Steps.{after_steps}
use Rattle.spool_shows.specs.Shown.{shown_by}
use Rattle.step_runs.specs.Attempts.{IsBegun, IsUnbegun}
use Rattle.step_runs.specs.Good.{IsGood}
use Rattle.step_runs.proofs.GoodLemmas.{begun_attempts_keep_good, unbegun_attempts_keep_good}
use Rattle.host_calls.specs.declared.turn_end.TurnEnd.{TurnEnd}
use Rattle.host_calls.specs.declared.turn_end.TurnEnd.TheVariants.{Done, Busy, FileFault, Damaged, Memory}
use Rattle.spool_model.specs.declared.turn_step.TurnStep.{TurnStep}
use Rattle.daemon_turn.specs.Laws.{GoodDirectoriesStayGood, ReadingsStayGood, TurnsAreDone}
use Rattle.daemon_turn.specs.TurnOutcome.{DaemonAt, IsTurnIdle, IsTurnStopped, TurnLeaves}
use Rattle.daemon_turn.specs.StartOrder.{Turn, turn_of}
use Rattle.spool_model.specs.StepsOf.{steps_of_turn}

no_damage : (table : JobTable) (damage : Damage) (shown : Result JobTable Damage) → shown ≡ Ok table → shown ≡ Err damage → ⊥
no_damage table damage shown is bad = let impossible : ◌≡◌ {A = Result JobTable Damage} (Ok table) (Err damage) = sym is ∙ bad in cc

pub turns_are_done : TurnsAreDone
turns_are_done tells alone at old new Done steps turn known is_alone table shown no_taken no_fault = tt
turns_are_done tells alone at old new Memory steps turn known is_alone table shown no_taken no_fault = tt
turns_are_done tells alone at old new Busy steps turn known is_alone table shown no_taken no_fault = no_taken (turn.busy refl)
turns_are_done tells alone at old new FileFault steps turn known is_alone table shown no_taken no_fault = no_fault (turn.fault refl)
turns_are_done tells alone at old new (Damaged damage) steps turn known is_alone table shown no_taken no_fault =
    no_damage table damage (shown_by (reading old.world)) shown (turn.leaves known is_alone).1

-- attempts leave good images alone
module _ (old new : World) (good : (image : Files) → IsImage old.now.directory image → IsGood image) where
  good_unbegun : IsUnbegun old new → LeavesOnly (λ image handed. IsGood image) old new
  good_unbegun unbegun = (unbegun_attempts_keep_good old new good unbegun).leaves

  good_begun : (table : JobTable) (steps : List Step) → IsBegun table steps old new → LeavesOnly (λ image handed. IsGood image) old new
  good_begun table steps begun = (begun_attempts_keep_good table steps old new good begun).leaves

good_by : (turn : Turn) (steps : List TurnStep) (old new : DaemonAt) (end : TurnEnd) → TurnLeaves turn steps old new end
    → ((image : Files) → IsImage old.world.now.directory image → IsGood image) →
    LeavesOnly (λ image handed. IsGood image) old.world new.world
good_by turn steps old new Done whole good = good_begun old.world new.world good whole.table _ whole.achieved.begun
good_by turn steps old new Busy idle good = good_unbegun old.world new.world good idle.0.unbegun
good_by turn steps old new FileFault (inl idle) good = good_unbegun old.world new.world good idle.unbegun
good_by turn steps old new FileFault (inr stopped) good = good_begun old.world new.world good stopped.table _ stopped.begun
good_by turn steps old new (Damaged damage) idle good = good_unbegun old.world new.world good idle.0.unbegun
good_by turn steps old new Memory (inl idle) good = good_unbegun old.world new.world good idle.unbegun
good_by turn steps old new Memory (inr stopped) good = good_begun old.world new.world good stopped.table _ stopped.begun

pub good_directories_stay_good : GoodDirectoriesStayGood
good_directories_stay_good tells alone at old new end steps turn known is_alone good =
    let leaves : LeavesOnly (λ image handed. IsGood image) old.world new.world =
    good_by (turn_of old.daemon at) steps old new end (turn.leaves known is_alone) good in
    record { leaves = leaves; now = at_end (λ image handed. IsGood image) old.world new.world leaves good }

-- The reading after a turn.

idle_reads : (steps : List TurnStep) (old new : DaemonAt) → IsTurnIdle steps old new → IsGood (reading old.world)
    → IsGood (reading new.world)
idle_reads steps old new idle good = (good.0, idle.shown ∙ good.1)

stopped_reads : (turn : Turn) (steps : List TurnStep) (old new : DaemonAt) → IsTurnStopped turn steps old new → IsGood (reading new.world)
stopped_reads turn steps old new stopped = elim (stopped.ends (reading new.world) (reading_is_image new.world.now.directory)) [
  | inl without ↦ (after_steps stopped.table (steps_of_turn steps), without)
  | inr with_next ↦ (after_steps stopped.table (steps_of_turn (steps ++ stopped.next)), with_next)
]

reads_by : (turn : Turn) (steps : List TurnStep) (old new : DaemonAt) (end : TurnEnd) → TurnLeaves turn steps old new end
    → IsGood (reading old.world) → IsGood (reading new.world)
reads_by turn steps old new Done whole good =
    (after_steps whole.table (steps_of_turn steps), whole.achieved.whole (reading new.world) (reading_is_image new.world.now.directory))
reads_by turn steps old new Busy idle good = idle_reads steps old new idle.0 good
reads_by turn steps old new FileFault (inl idle) good = idle_reads steps old new idle good
reads_by turn steps old new FileFault (inr stopped) good = stopped_reads turn steps old new stopped
reads_by turn steps old new (Damaged damage) idle good = idle_reads steps old new idle.0 good
reads_by turn steps old new Memory (inl idle) good = idle_reads steps old new idle good
reads_by turn steps old new Memory (inr stopped) good = stopped_reads turn steps old new stopped

pub readings_stay_good : ReadingsStayGood
readings_stay_good tells alone at old new end steps turn known is_alone good =
    reads_by (turn_of old.daemon at) steps old new end (turn.leaves known is_alone) good
