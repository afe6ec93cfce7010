-- What each image of each moment keeps, over one event and over a list of them.
use Rattle.std.proofs.Common.{◌≡◌, ◌++◌, false, List, [], ◌∷◌, append_assoc, sym, ap, subst, ◌∙◌, refl, inl, inr, All, Contains}
use Rattle.std.specs.Prelude.{Ok}
use Rattle.host_calls.specs.declared.child.Handed.{Handed}
use Rattle.host_calls.specs.Directory.{Files, IsImage}
use Rattle.host_calls.specs.World.{HasEachImage, LeavesOnly, Moment, World, reading}
use Rattle.host_calls.proofs.DirectoryLemmas.{reading_is_image}
use Rattle.host_calls.proofs.WorldLemmas.{leaves_none, leaves_then, leaves_weaker}
use Rattle.spool_model.specs.declared.step.Step.{Step}
use Rattle.spool_model.specs.JobTable.{JobTable}
use Rattle.spool_model.specs.Laws.{PrefixAndRest}
use Rattle.spool_model.specs.Steps.{AreLegal, FollowDraws, IsPrefix, after_steps}
use Rattle.spool_model.proofs.StepLemmas.{prefixes_are_legal}
use Rattle.spool_shows.specs.Shown.{Shows, shown_by}
use Rattle.step_runs.specs.Hands.{HandsByNow}
use Rattle.headline.specs.Effects.{Whole, Partial, ComesUpWith, Crashed, Effect, Passed, Untouched, all_steps, steps_begun, world_after}
use Rattle.headline.specs.ShownEffects.{IsShownAlong, IsShownAsBefore, IsShownBegun, IsShownOnTheWay, PassShownFrom, TakesShownEffect}
use Rattle.headline.proofs.GoodSteps.{all_prefix, all_rest, follows_prefix, good_by_now}
use Rattle.headline.proofs.GoodTables.{IsGood}

-- the image shows a good table, by what was started after the first scripts
pub record ShowsGood (opening : JobTable) (all : List Step) (first : List Handed) (image : Files) (handed : List Handed) : Type 0 where
  pub table : JobTable
  pub shows : Shows image table
  pub given : List Handed
  pub grown : handed ≡ first ++ given
  pub good : IsGood opening all false given table

-- what holds of each image and of each moment from one world to another
pub record Keeps (P : Files → List Handed → Type 0) (old new : World) : Type 0 where
  pub leaves : LeavesOnly P old new
  pub now : HasEachImage P new.now

-- a prefix of legal steps keeps a table good
pub good_prefix : (opening : JobTable) (all : List Step) (given more : List Handed) (table : JobTable) (steps prefix : List Step) →
    AreLegal table steps → FollowDraws false steps → All (Contains all) steps → IsPrefix prefix steps →
    HandsByNow table prefix more → IsGood opening all false given table →
    IsGood opening all false (given ++ more) (after_steps table prefix)
good_prefix opening all given more table steps prefix legal follow within is by_now good =
    let parts : PrefixAndRest table prefix is.0 = prefixes_are_legal table prefix is.0 (subst (AreLegal table) is.1 legal) in
    good_by_now opening all given more table prefix parts.prefix_legal
    (follows_prefix false prefix is.0 (subst (FollowDraws false) is.1 follow))
    (all_prefix (Contains all) prefix is.0 (subst (λ (l : List Step). All (Contains all) l) is.1 within)) by_now good

-- an image that is as before shows a good table
as_before : (opening : JobTable) (all : List Step) (first : List Handed) (start : Moment) →
    HasEachImage (ShowsGood opening all first) start → (image : Files) (handed : List Handed) → IsShownAsBefore start image handed →
    ShowsGood opening all first image handed
as_before opening all first start good image handed is =
    let was : ShowsGood opening all first is.from start.handed = good is.from is.was in
    record { table = was.table; shows = is.same ∙ was.shows; given = was.given; grown = is.as_many ∙ was.grown; good = was.good }

-- the table that the reading shows is good, whichever it is
shown_good : (opening : JobTable) (all : List Step) (first : List Handed) (old : World) (table : JobTable) →
    shown_by (reading old) ≡ Ok table → ShowsGood opening all first (reading old) old.now.handed →
    (given : List Handed) × (old.now.handed ≡ first ++ given) × IsGood opening all false given table
shown_good opening all first old table shown is =
    let both : Ok is.table ≡ Ok table = sym is.shows ∙ shown in
    let same : is.table ≡ table = cc in
    (is.given, is.grown, subst (IsGood opening all false is.given) same is.good)

-- an image along the steps shows a good table
along : (opening : JobTable) (all : List Step) (first : List Handed) (table : JobTable) (steps : List Step) (start : Moment)
    (given : List Handed) → AreLegal table steps → FollowDraws false steps → All (Contains all) steps →
    start.handed ≡ first ++ given → IsGood opening all false given table → (image : Files) (handed : List Handed) →
    IsShownAlong table steps start image handed → ShowsGood opening all first image handed
along opening all first table steps start given legal follow within grown good image handed is = record {
  table = after_steps table is.prefix;
  shows = is.shows;
  given = given ++ is.given;
  grown = is.grown ∙ ap (λ (l : List Handed). l ++ is.given) grown ∙ append_assoc first given is.given;
  good = good_prefix opening all given is.given table steps is.prefix legal follow within is.is_prefix is.hands good;
}

-- steps that were begun
begun_keeps : (opening : JobTable) (all : List Step) (first : List Handed) (table : JobTable) (steps : List Step) (old new : World) →
    FollowDraws false steps → IsShownBegun table steps old new → All (Contains all) steps →
    HasEachImage (ShowsGood opening all first) old.now → Keeps (ShowsGood opening all first) old new
begun_keeps opening all first table steps old new follow begun within good =
    let start : (given : List Handed) × (old.now.handed ≡ first ++ given) × IsGood opening all false given table =
    shown_good opening all first old table begun.shown (good (reading old) (reading_is_image old.now.directory)) in
    let on : (image : Files) (handed : List Handed) → IsShownAlong table steps old.now image handed
    → ShowsGood opening all first image handed =
    along opening all first table steps old.now start.0 begun.legal follow within start.1 start.2 in
    record {
      leaves = leaves_weaker (IsShownOnTheWay table steps old.now) (ShowsGood opening all first) old new
          (λ image handed is. elim is [
            | inl before ↦ as_before opening all first old.now good image handed before
            | inr further ↦ on image handed further
          ]) begun.leaves;
      now = λ image is. on image new.now.handed (begun.now image is);
    }

-- a crash
crash_keeps : (opening : JobTable) (all : List Step) (first : List Handed) (image : Files) (old new : World) →
    ComesUpWith image old new → HasEachImage (ShowsGood opening all first) old.now → Keeps (ShowsGood opening all first) old new
crash_keeps opening all first image old new up good =
    let kept : (other : Files) (handed : List Handed) → IsImage old.now.directory other → handed ≡ old.now.handed
    → ShowsGood opening all first other handed =
    λ other handed was same. subst (ShowsGood opening all first other) (sym same) (good other was) in
    record {
      leaves = leaves_weaker (λ (other : Files) (handed : List Handed). IsImage old.now.directory other × (handed ≡ old.now.handed))
          (ShowsGood opening all first) old new (λ other handed is. kept other handed is.0 is.1) up.leaves;
      now = λ other is. kept other new.now.handed (subst (IsImage old.now.directory) (sym (up.only other is)) up.was) up.handed;
    }

-- one event
pub event_keeps : (opening : JobTable) (all : List Step) (first : List Handed) (effect : Effect) (old new : World) →
    TakesShownEffect effect old new → All (Contains all) (steps_begun effect) → HasEachImage (ShowsGood opening all first) old.now →
    Keeps (ShowsGood opening all first) old new
event_keeps opening all first Untouched old new moved within good = record {
  leaves =
      leaves_weaker (IsShownAsBefore old.now) (ShowsGood opening all first) old new (as_before opening all first old.now good) moved.leaves;
  now = λ image is. as_before opening all first old.now good image new.now.handed (moved.now image is);
}
event_keeps opening all first (Partial table steps) old new moved within good =
    begun_keeps opening all first table steps old new moved.0 moved.1 within good
event_keeps opening all first (Whole table steps) old new moved within good =
    begun_keeps opening all first table steps old new moved.0 moved.1.begun within good
event_keeps opening all first (Crashed image) old new moved within good = crash_keeps opening all first image old new moved good

-- a list of events
pub events_keep : (opening : JobTable) (all : List Step) (first : List Handed) (events : List Passed) (old : World) →
    PassShownFrom old events → All (Contains all) (all_steps events) → HasEachImage (ShowsGood opening all first) old.now →
    Keeps (ShowsGood opening all first) old (world_after old events)
events_keep opening all first [] old pass within good =
    record { leaves = leaves_none (ShowsGood opening all first) old old refl; now = good }
events_keep opening all first (event ∷ later) old pass within good =
    let here : Keeps (ShowsGood opening all first) old event.left =
    event_keeps opening all first event.effect old event.left pass.0
    (all_prefix (Contains all) (steps_begun event.effect) (all_steps later) within) good in
    let rest : Keeps (ShowsGood opening all first) event.left (world_after event.left later) =
    events_keep opening all first later event.left pass.1
    (all_rest (Contains all) (steps_begun event.effect) (all_steps later) within) here.now in
    record {
      leaves = leaves_then (ShowsGood opening all first) old event.left (world_after event.left later) here.leaves rest.leaves;
      now = rest.now;
    }
