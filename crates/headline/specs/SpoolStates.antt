-- The state of a host between events (own): at a table, with steps that a crash may still undo from their end.
use Rattle.std.specs.Prelude.{◌≡◌, [], ◌∷◌, List}
use Rattle.host_calls.specs.Directory.{Files, Directory, IsImage}
use Rattle.host_calls.specs.World.{World}
use Rattle.spool_model.specs.declared.step.Step.{Step}
use Rattle.spool_model.specs.JobTable.{JobTable}
use Rattle.spool_model.specs.Steps.{IsPrefix, after_steps}
use Rattle.spool_shows.specs.Shown.{Shows}
use Rattle.headline.specs.Effects.{Whole, Partial, Crashed, Effect, Passed, Untouched}

-- a table, and steps of which a prefix is recorded
pub record SpoolState : Type 0 where
  pub table : JobTable
  pub steps : List Step

-- the table, and no steps that could still be undone
abbrev pub settled_at : JobTable → SpoolState
settled_at table = record { table = table; steps = [] }

-- the table after a prefix of the steps: an image of a directory that is in this state may show it
abbrev pub MayShow : SpoolState → JobTable → Type 0
MayShow at table = (prefix : List Step) × IsPrefix prefix at.steps × (table ≡ after_steps at.table prefix)

-- the directory is in this state: each of its images shows the table after a prefix of the steps
abbrev pub IsInState : Directory → SpoolState → Type 0
IsInState directory at = (image : Files) → IsImage directory image →
    (prefix : List Step) × IsPrefix prefix at.steps × Shows image (after_steps at.table prefix)

-- The state of the host after an effect: as it was, if no step was begun; else at the table that the reading showed,
-- with the steps, if they were begun, and at the table after them, if all were made; after a crash at the table of its image.
abbrev pub ArrivesAt : Effect → SpoolState → SpoolState → Type 0
ArrivesAt Untouched before after = after ≡ before
ArrivesAt (Partial table steps) before after = MayShow before table × (after ≡ record { table = table; steps = steps })
ArrivesAt (Whole table steps) before after = MayShow before table × (after ≡ settled_at (after_steps table steps))
ArrivesAt (Crashed image) before after =
    (table : JobTable) × Shows image table × MayShow before table × (after ≡ settled_at table)

-- the host is in this state before the events, and after each of them where it arrives by its effect
abbrev pub PassesStates : World → SpoolState → List Passed → Type 0
PassesStates old at [] = IsInState old.now.directory at
PassesStates old at (event ∷ later) =
    IsInState old.now.directory at
    × ((after : SpoolState) × ArrivesAt event.effect at after × PassesStates event.left after later)
