-- The state of the host, over the events.
use Rattle.std.proofs.Common.{◌≡◌, ◌++◌, List, [], ◌∷◌, ap, subst, sym, ◌∙◌, refl}
use Rattle.std.specs.Prelude.{Ok, true, false}
use Rattle.host_calls.specs.Directory.{Files, Directory, IsImage}
use Rattle.host_calls.specs.World.{World, reading}
use Rattle.host_calls.proofs.DirectoryLemmas.{reading_is_image}
use Rattle.host_calls.proofs.WorldLemmas.{leaves_none}
use Rattle.spool_model.specs.declared.step.Step.{Step}
use Rattle.spool_model.specs.JobTable.{JobTable}
use Rattle.spool_model.specs.Steps.{IsPrefix, after_steps}
use Rattle.spool_shows.specs.Shown.{Shows, shown_by}
use Rattle.step_runs.specs.Attempts.{IsAsBefore}
use Rattle.step_runs.specs.Current.{EachShows}
use Rattle.headline.specs.Laws.{EventsPassOn, IsEventWhole, LaterEventsLeave, SettledDirectoriesShowTheirTable, HostsReadTables, StillWorldsAreUnbegun}
use Rattle.headline.specs.Effects.{Whole, Partial, Crashed, Effect, IsEffectOf, Passed, TakesEffect, Untouched}
use Rattle.headline.specs.ShownEffects.{IsShownAsBefore, PassShownFrom, TakesShownEffect}
use Rattle.headline.specs.SpoolStates.{ArrivesAt, MayShow, SpoolState, IsInState, PassesStates, settled_at}
use Rattle.headline.proofs.TableAfterLemmas.{one_table}

-- each image shows the table: the directory is in this state, with no steps
pub settled_holds : (directory : Directory) (table : JobTable) → EachShows directory table → IsInState directory (settled_at table)
settled_holds directory table shows image is = ([], ([], refl), shows image is)

-- the only prefix of no steps is none
prefix_of_none : (table : JobTable) (prefix : List Step) → IsPrefix prefix [] → after_steps table prefix ≡ table
prefix_of_none table [] is = refl
prefix_of_none table (step ∷ later) is = let impossible : ◌≡◌ {A = List Step} [] (step ∷ later ++ is.0) = is.1 in cc

pub settled_directories_show_their_table : SettledDirectoriesShowTheirTable
settled_directories_show_their_table directory table = (
  λ holds image is. let prefix : (prefix : List Step) × IsPrefix prefix [] × Shows image (after_steps table prefix) = holds image is in
      prefix.2 ∙ ap (λ t. Ok t) (prefix_of_none table prefix.0 prefix.1),
  settled_holds directory table,
)

-- the table that the directory shows is one that its standing allows
may_show : (old : World) (at : SpoolState) (table : JobTable) → shown_by (reading old) ≡ Ok table → IsInState old.now.directory at →
    MayShow at table
may_show old at table shown holds =
    let prefix : (prefix : List Step) × IsPrefix prefix at.steps × Shows (reading old) (after_steps at.table prefix) =
    holds (reading old) (reading_is_image old.now.directory) in
    (prefix.0, prefix.1, one_table (reading old) table (after_steps at.table prefix.0) shown prefix.2)

-- the state of the host after an effect
arrives : (effect : Effect) (old new : World) (at : SpoolState) → TakesShownEffect effect old new → IsInState old.now.directory at →
    (after : SpoolState) × ArrivesAt effect at after × IsInState new.now.directory after
arrives Untouched old new at moved holds = (at, refl, still) where
  still : IsInState new.now.directory at
  still image is =
      let before : IsShownAsBefore old.now image new.now.handed = moved.now image is in
      let prefix : (prefix : List Step) × IsPrefix prefix at.steps × Shows before.from (after_steps at.table prefix) =
      holds before.from before.was in
      (prefix.0, prefix.1, before.same ∙ prefix.2)
arrives (Partial table steps) old new at moved holds = (
  record { table = table; steps = steps },
  (may_show old at table moved.1.shown holds, refl),
  λ image is. (
    (moved.1.now image is).prefix,
    (moved.1.now image is).is_prefix,
    (moved.1.now image is).shows,
  ),
)
arrives (Whole table steps) old new at moved holds = (
  settled_at (after_steps table steps),
  (may_show old at table moved.1.begun.shown holds, refl),
  settled_holds new.now.directory (after_steps table steps) moved.1.whole,
)
arrives (Crashed image) old new at moved holds =
    let prefix : (prefix : List Step) × IsPrefix prefix at.steps × Shows image (after_steps at.table prefix) = holds image moved.was in (
      settled_at (after_steps at.table prefix.0),
      (after_steps at.table prefix.0, prefix.2, (prefix.0, prefix.1, refl), refl),
      only prefix.0 prefix.2,
    ) where
      only : (prefix : List Step) → Shows image (after_steps at.table prefix)
          → IsInState new.now.directory (settled_at (after_steps at.table prefix))
      only prefix shows = settled_holds new.now.directory (after_steps at.table prefix)
          (λ other is. subst (λ (files : Files). Shows files (after_steps at.table prefix)) (sym (moved.only other is)) shows)

pub holds_through : (old : World) (at : SpoolState) (events : List Passed) → PassShownFrom old events → IsInState old.now.directory at →
    PassesStates old at events
holds_through old at [] pass holds = holds
holds_through old at (event ∷ later) pass holds =
    let after : (after : SpoolState) × ArrivesAt event.effect at after × IsInState event.left.now.directory after =
    arrives event.effect old event.left at pass.0 holds in
    (holds, (after.0, after.1, holds_through event.left after.0 later pass.1 after.2))

pub hosts_read_tables : HostsReadTables
hosts_read_tables old at [] through = tt
hosts_read_tables old at (event ∷ later) through =
    let here : (prefix : List Step) × IsPrefix prefix at.steps × Shows (reading old) (after_steps at.table prefix) =
    through.0 (reading old) (reading_is_image old.now.directory) in
    ((after_steps at.table here.0, here.2), hosts_read_tables event.left through.1.0 later through.1.2)

pub events_pass_on : EventsPassOn
events_pass_on old [] later first rest = rest
events_pass_on old (event ∷ others) later first rest = (first.0, events_pass_on event.left others later first.1 rest)

pub later_events_leave : LaterEventsLeave
later_events_leave old [] later = refl
later_events_leave old (event ∷ others) later = later_events_leave event.left others later

pub still_worlds_are_unbegun : StillWorldsAreUnbegun
still_worlds_are_unbegun old new same = record {
  leaves = leaves_none (IsAsBefore old.now) old new same;
  now = subst (λ (w : World). (image : Files) → IsImage w.now.directory image → IsAsBefore old.now image w.now.handed) (sym same)
      (λ image is. (record { from = image; was = is; same = refl; others = λ name other. refl }, refl));
}

-- an event that was acknowledged made all of its steps, by whatever relation these are its steps
pub acknowledged_events_are_whole : (AreSteps : JobTable → List Step → Type 0) (effect : Effect) (old new : World) →
    IsEffectOf true AreSteps effect → TakesEffect effect old new → IsEventWhole AreSteps old new
acknowledged_events_are_whole AreSteps Untouched old new is takes = let impossible : true ≡ false = is in cc
acknowledged_events_are_whole AreSteps (Partial table steps) old new is takes = let impossible : true ≡ false = is.0 in cc
acknowledged_events_are_whole AreSteps (Whole table steps) old new is takes = record {
  table = table;
  steps = steps;
  are = is;
  shown = takes.1.begun.shown;
  stand = takes.1.whole;
}
acknowledged_events_are_whole AreSteps (Crashed image) old new is takes = absurd is
