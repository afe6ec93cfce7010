-- What one event does to a host, whatever it is of: a command, a turn of the daemon, or a crash (own).
use Rattle.std.specs.Prelude.{◌≡◌, ◌++◌, [], ◌∷◌, Bool, false, List}
use Rattle.host_calls.specs.Directory.{Files, IsImage}
use Rattle.host_calls.specs.World.{LeavesOnly, World}
use Rattle.spool_model.specs.declared.step.Step.{Step}
use Rattle.spool_model.specs.JobTable.{JobTable}
use Rattle.spool_model.specs.Steps.{FollowDraws}
use Rattle.step_runs.specs.Attempts.{IsAchieved, IsBegun, IsUnbegun}

-- The machine crashed, and came up with one image of the moment before as the only one. Nothing was started.
pub record ComesUpWith (image : Files) (old new : World) : Type 0 where
  pub was : IsImage old.now.directory image
  pub only : (other : Files) → IsImage new.now.directory other → other ≡ image
  pub handed : new.now.handed ≡ old.now.handed
  pub leaves : LeavesOnly (λ other handed. IsImage old.now.directory other × (handed ≡ old.now.handed)) old new

-- What an event did. Untouched: none of its steps. Partial: a prefix of these steps, on the table that the directory
-- showed. Whole: all of these steps. Crashed: the machine went down, and came up with the image.
pub data Effect : Type 0 where
  Untouched : Effect
  Partial : (table : JobTable) (steps : List Step) → Effect
  Whole : (table : JobTable) (steps : List Step) → Effect
  Crashed : (image : Files) → Effect

-- The effect leads from one world to another. Each Accept among its steps comes directly after its Draw.
abbrev pub TakesEffect : Effect → World → World → Type 0
TakesEffect Untouched old new = IsUnbegun old new
TakesEffect (Partial table steps) old new = FollowDraws false steps × IsBegun table steps old new
TakesEffect (Whole table steps) old new = FollowDraws false steps × IsAchieved table steps old new
TakesEffect (Crashed image) old new = ComesUpWith image old new

-- The effect is one of an event whose steps on a table are these. Where the event is acknowledged, it made all of them.
abbrev pub IsEffectOf : Bool → (JobTable → List Step → Type 0) → Effect → Type 0
IsEffectOf acknowledged AreSteps Untouched = acknowledged ≡ false
IsEffectOf acknowledged AreSteps (Partial table steps) = (acknowledged ≡ false) × AreSteps table steps
IsEffectOf acknowledged AreSteps (Whole table steps) = AreSteps table steps
IsEffectOf acknowledged AreSteps (Crashed image) = ⊥

-- the steps that the effect began
abbrev pub steps_begun : Effect → List Step
steps_begun Untouched = []
steps_begun (Partial table steps) = steps
steps_begun (Whole table steps) = steps
steps_begun (Crashed image) = []

-- an event that has passed: its effect, and the world that it left
pub record Passed : Type 0 where
  pub effect : Effect
  pub left : World

-- the events pass one after another, the first of them from this world on
abbrev pub PassFrom : World → List Passed → Type 0
PassFrom old [] = Unit {0}
PassFrom old (event ∷ later) = TakesEffect event.effect old event.left × PassFrom event.left later

-- the world that the events leave
abbrev pub world_after : World → List Passed → World
world_after old [] = old
world_after old (event ∷ later) = world_after event.left later

-- all steps that the events began, in their order
abbrev pub all_steps : List Passed → List Step
all_steps [] = []
all_steps (event ∷ later) = steps_begun event.effect ++ all_steps later
