-- What holds of all events, whatever they are of.
use Rattle.std.specs.Prelude.{◌≡◌, ◌↔◌, ◌++◌, [], ◌∷◌, List}
use Rattle.host_calls.specs.Directory.{Directory}
use Rattle.host_calls.specs.World.{World, reading}
use Rattle.spool_model.specs.declared.step.Step.{Step}
use Rattle.spool_model.specs.JobTable.{JobTable}
use Rattle.spool_model.specs.Steps.{after_steps}
use Rattle.spool_shows.specs.Shown.{Shows}
use Rattle.step_runs.specs.Attempts.{IsUnbegun}
use Rattle.step_runs.specs.Current.{EachShows}
use Rattle.headline.specs.Headline.{Headline}
use Rattle.headline.specs.Effects.{Effect, Whole, TakesEffect, PassFrom, Passed, world_after}
use Rattle.headline.specs.ShownEffects.{PassShownFrom, TakesShownEffect}
use Rattle.headline.specs.SpoolStates.{SpoolState, IsInState, PassesStates, settled_at}

-- the headline, of any events that pass from a world on whose directory shows one table in each image
abbrev pub EventsHandOnce : Type 0
EventsHandOnce = (opening : JobTable) (events : List Passed) (old : World) →
    EachShows old.now.directory opening → PassFrom old events → Headline opening events old

-- the headline, of any events that pass so as far as images show it, whatever they do to other files
abbrev pub ShownEventsHandOnce : Type 0
ShownEventsHandOnce = (opening : JobTable) (events : List Passed) (old : World) →
    EachShows old.now.directory opening → PassShownFrom old events → Headline opening events old

-- an effect is one that images show
abbrev pub EffectsAreShown : Type 0
EffectsAreShown = (effect : Effect) (old new : World) → TakesEffect effect old new → TakesShownEffect effect old new

-- the reading shows a table before each of the events
abbrev pub EachReadsATable : World → List Passed → Type 0
EachReadsATable old [] = Unit {0}
EachReadsATable old (event ∷ later) = ((table : JobTable) × Shows (reading old) table) × EachReadsATable event.left later

-- the state of the host through the events, none of them finds damage
abbrev pub HostsReadTables : Type 0
HostsReadTables = (old : World) (at : SpoolState) (events : List Passed) → PassesStates old at events →
    EachReadsATable old events

-- a directory that is at a table without steps shows it in each image, and the other way round
abbrev pub SettledDirectoriesShowTheirTable : Type 0
SettledDirectoriesShowTheirTable = (directory : Directory) (table : JobTable) →
    IsInState directory (settled_at table) ↔ EachShows directory table

-- where an event made all its steps, each image shows the table after them
abbrev pub AchievedStepsStand : Type 0
AchievedStepsStand = (table : JobTable) (steps : List Step) (old new : World) → TakesEffect (Whole table steps) old new →
    EachShows new.now.directory (after_steps table steps)

-- All steps of an event were made: they are its steps, by this relation, on the table that the reading showed, and each
-- image shows the table after them.
pub record IsEventWhole (AreSteps : JobTable → List Step → Type 0) (old new : World) : Type 0 where
  pub table : JobTable
  pub steps : List Step
  pub are : AreSteps table steps
  pub shown : Shows (reading old) table
  pub stand : EachShows new.now.directory (after_steps table steps)

-- events pass after others
abbrev pub EventsPassOn : Type 0
EventsPassOn = (old : World) (first later : List Passed) → PassFrom old first → PassFrom (world_after old first) later →
    PassFrom old (first ++ later)

-- they leave what the later ones leave
abbrev pub LaterEventsLeave : Type 0
LaterEventsLeave = (old : World) (first later : List Passed) →
    world_after old (first ++ later) ≡ world_after (world_after old first) later

-- where nothing has changed, no step was begun
abbrev pub StillWorldsAreUnbegun : Type 0
StillWorldsAreUnbegun = (old new : World) → new ≡ old → IsUnbegun old new
