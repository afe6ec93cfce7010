-- The headline, of any events.
use Rattle.std.proofs.Common.{false, List, [], ◌∷◌, append-nil, sym}
use Rattle.std.proofs.lemmas.List.Elements.{All-contains_itself, All-weaker}
use Rattle.host_calls.specs.declared.child.Handed.{Handed}
use Rattle.host_calls.specs.Directory.{Files}
use Rattle.host_calls.specs.World.{HasEachImage, Moment, World, reading}
use Rattle.host_calls.proofs.DirectoryLemmas.{reading_is_image}
use Rattle.host_calls.proofs.WorldLemmas.{leaves_weaker}
use Rattle.spool_model.specs.declared.step.Step.{Step}
use Rattle.spool_model.specs.JobTable.{JobTable}
use Rattle.spool_model.specs.Steps.{FollowDraws, after_steps}
use Rattle.spool_shows.proofs.SoundTables.{shown_tables_are_sound}
use Rattle.step_runs.specs.Current.{EachShows}
use Rattle.headline.specs.Headline.{EachHandsOver, HandedOnce, EffectHandsOver, ShowsAfter, StartHolds, StartsSurvive}
use Rattle.headline.specs.Laws.{EventsHandOnce, ShownEventsHandOnce}
use Rattle.headline.specs.Effects.{Whole, Partial, Crashed, Effect, Passed, Untouched, all_steps, world_after}
use Rattle.headline.specs.ShownEffects.{IsShownAlong, IsShownBegun, PassShownFrom, TakesShownEffect}
use Rattle.headline.specs.SpoolStates.{settled_at}
use Rattle.headline.proofs.GoodMoments.{Keeps, ShowsGood, events_keep, good_prefix}
use Rattle.headline.proofs.GoodTables.{IsGood, good_opening}
use Rattle.headline.proofs.ShownEffectLemmas.{events_are_shown}
use Rattle.headline.proofs.StateLemmas.{settled_holds, holds_through}
use Rattle.headline.proofs.TableAfterLemmas.{tables_after}
use Rattle.headline.proofs.StartedNumbers.{Holds}

-- a table that the directory shows at first is good
opening_good : (opening : JobTable) (all : List Step) (old : World) → EachShows old.now.directory opening →
    HasEachImage (ShowsGood opening all old.now.handed) old.now
opening_good opening all old shows image is = record {
  table = opening;
  shows = shows image is;
  given = [];
  grown = sym (append-nil old.now.handed);
  good = good_opening opening all (shown_tables_are_sound image opening (shows image is));
}

-- what was started where an image shows a good table
good_once : (opening : JobTable) (all : List Step) (old new : World) →
    ShowsGood opening all old.now.handed (reading new) new.now.handed → HandedOnce opening all old new
good_once opening all old new is = record { given = is.given; grown = is.grown; once = is.good.once; of_jobs = is.good.of_jobs }

-- starts survive where an image shows a good table
good_survives : (opening : JobTable) (all : List Step) (first : Moment) (image : Files) (handed : List Handed) →
    ShowsGood opening all first.handed image handed → StartsSurvive all first image handed
good_survives opening all first image handed is = record {
  table = is.table;
  shows = is.shows;
  given = is.given;
  grown = is.grown;
  once = is.good.once;
  stand = All-weaker (λ (one : Handed). Holds all false is.table one.number) (StartHolds is.table all)
      (λ one holds. record { drawn = record { some = holds.some; drawn = holds.old }; started = holds.started }) is.given is.good.stand;
}

-- steps that were begun start scripts of their own table
begun_once : (table : JobTable) (steps : List Step) (old new : World) → FollowDraws false steps → IsShownBegun table steps old new →
    HandedOnce table steps old new
begun_once table steps old new follow begun =
    let is : IsShownAlong table steps old.now (reading new) new.now.handed = begun.now (reading new) (reading_is_image new.now.directory) in
    let good : IsGood table steps false is.given (after_steps table is.prefix) =
    good_prefix table steps [] is.given table steps is.prefix begun.legal follow (All-contains_itself steps) is.is_prefix is.hands
    (good_opening table steps (shown_tables_are_sound (reading old) table begun.shown)) in
    record { given = is.given; grown = is.grown; once = good.once; of_jobs = good.of_jobs }

hands_over : (effect : Effect) (old new : World) → TakesShownEffect effect old new → EffectHandsOver effect old new
hands_over Untouched old new moved = (moved.now (reading new) (reading_is_image new.now.directory)).as_many
hands_over (Partial table steps) old new moved = begun_once table steps old new moved.0 moved.1
hands_over (Whole table steps) old new moved = begun_once table steps old new moved.0 moved.1.begun
hands_over (Crashed image) old new moved = moved.handed

each_hands_over : (old : World) (events : List Passed) → PassShownFrom old events → EachHandsOver old events
each_hands_over old [] pass = tt
each_hands_over old (event ∷ later) pass =
    (hands_over event.effect old event.left pass.0, each_hands_over event.left later pass.1)

-- each image shows the table after the events
shows_after : (opening : JobTable) (events : List Passed) (old : World) → EachShows old.now.directory opening → PassShownFrom old events →
    HasEachImage (ShowsGood opening (all_steps events) old.now.handed) (world_after old events).now →
    ShowsAfter opening events (world_after old events)
shows_after opening events old each pass good image is =
    let shown : ShowsGood opening (all_steps events) old.now.handed image (world_after old events).now.handed = good image is in
    (shown.table, shown.shows, tables_after opening events old each pass image is shown.table shown.shows)

pub shown_events_hand_once : ShownEventsHandOnce
shown_events_hand_once opening events old shows pass =
    let all : List Step = all_steps events in
    let new : World = world_after old events in
    let kept : Keeps (ShowsGood opening all old.now.handed) old new =
    events_keep opening all old.now.handed events old pass (All-contains_itself all) (opening_good opening all old shows) in
    record {
      shows = shows_after opening events old shows pass kept.now;
      holds = holds_through old (settled_at opening) events pass (settled_holds old.now.directory opening shows);
      handed = good_once opening all old new (kept.now (reading new) (reading_is_image new.now.directory));
      each = each_hands_over old events pass;
      survive = leaves_weaker (ShowsGood opening all old.now.handed) (StartsSurvive all old.now) old new
          (good_survives opening all old.now) kept.leaves;
      now = λ image is. good_survives opening all old.now image new.now.handed (kept.now image is);
    }

-- and so of effects
pub events_hand_once : EventsHandOnce
events_hand_once opening events old shows pass = shown_events_hand_once opening events old shows (events_are_shown old events pass)
