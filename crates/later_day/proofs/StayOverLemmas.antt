-- Where each image shows a table, no job that is over in it lives after any events.
use Rattle.std.proofs.Common.{◌≤◌, false, List, [], ◌∷◌, ◌∙◌, arith, inl, inr, le_refl, subst, sym}
use Rattle.host_calls.specs.Directory.{Files, IsImage}
use Rattle.host_calls.specs.World.{World, reading}
use Rattle.host_calls.proofs.DirectoryLemmas.{reading_is_image}
use Rattle.spool_model.specs.declared.step.Step.{Step}
use Rattle.spool_model.specs.JobTable.{JobTable}
use Rattle.spool_model.specs.Steps.{AreLegal, FollowDraws, after_step, after_steps}
use Rattle.spool_model.proofs.StepLemmas.{last_rises, prefixes_are_legal}
use Rattle.spool_shows.specs.Shown.{Shows}
use Rattle.at_mail.specs.Laws.{NoJobLivesAgain}
use Rattle.at_mail.proofs.RevivingLemmas.{steps_revive_no_job}
use Rattle.headline.specs.Effects.{Crashed, Effect, Partial, Passed, Untouched, Whole, world_after}
use Rattle.headline.specs.ShownEffects.{IsShownAlong, IsShownAsBefore, IsShownBegun, PassShownFrom, TakesShownEffect}
use Rattle.headline.proofs.GoodSteps.{follows_prefix}
use Rattle.headline.proofs.TableAfterLemmas.{one_table}
use Rattle.later_day.specs.EffectLaws.{JobsStayOver}
use Rattle.later_day.specs.LaterEffects.{only_jobs, passed_jobs}
use Rattle.later_day.proofs.LaterLemmas.{pass_of_jobs}

-- no job that is over in the table lives in what the image shows
record StaysOver (table : JobTable) (image : Files) : Type 0 where
  shown : JobTable
  shows : Shows image shown
  least : table.last ≤ shown.last
  none : NoJobLivesAgain table shown

-- so does each image
abbrev EachStaysOver : JobTable → World → Type 0
EachStaysOver table world = (image : Files) → IsImage world.now.directory image → StaysOver table image

-- Steps.

last_grows : (table : JobTable) (steps : List Step) → table.last ≤ (after_steps table steps).last
last_grows table [] = le_refl table.last
last_grows table (step ∷ later) =
    let one : table.last ≤ (after_step table step).last = last_rises table.last step in
    let more : (after_step table step).last ≤ (after_steps (after_step table step) later).last = last_grows (after_step table step) later in
    omega arith

over_after : (table before : JobTable) (steps : List Step) → AreLegal before steps → FollowDraws false steps → table.last ≤ before.last →
    NoJobLivesAgain table before → NoJobLivesAgain table (after_steps before steps)
over_after table before steps legal follow least none number lives = elim (steps_revive_no_job before steps legal follow number lives) [
  | inl lived ↦ none number lived
  | inr new ↦ inr (omega (arith, least, new))
]

-- Events.

begun_stays : (table begun : JobTable) (steps : List Step) (old new : World) → FollowDraws false steps →
    IsShownBegun begun steps old new → EachStaysOver table old → EachStaysOver table new
begun_stays table begun steps old new follow is each image at =
    let along : IsShownAlong begun steps old.now image new.now.handed = is.now image at in
    let was : StaysOver table (reading old) = each (reading old) (reading_is_image old.now.directory) in
    let same = one_table (reading old) was.shown begun was.shows is.shown in
    let legal : AreLegal begun along.prefix =
    (prefixes_are_legal begun along.prefix along.is_prefix.0 (subst (AreLegal begun) along.is_prefix.1 is.legal)).prefix_legal in
    let follows : FollowDraws false along.prefix =
    follows_prefix false along.prefix along.is_prefix.0 (subst (FollowDraws false) along.is_prefix.1 follow) in
    let least : table.last ≤ begun.last = subst (λ (now : JobTable). table.last ≤ now.last) same was.least in
    record {
      shown = after_steps begun along.prefix;
      shows = along.shows;
      least = let more : begun.last ≤ (after_steps begun along.prefix).last = last_grows begun along.prefix in omega arith;
      none = over_after table begun along.prefix legal follows least (subst (NoJobLivesAgain table) same was.none);
    }

effect_stays : (table : JobTable) (effect : Effect) (old new : World) → TakesShownEffect effect old new → EachStaysOver table old →
    EachStaysOver table new
effect_stays table Untouched old new moved each image at =
    let before : IsShownAsBefore old.now image new.now.handed = moved.now image at in
    let was : StaysOver table before.from = each before.from before.was in
    record { shown = was.shown; shows = before.same ∙ was.shows; least = was.least; none = was.none }
effect_stays table (Partial begun steps) old new moved each image at =
    begun_stays table begun steps old new moved.0 moved.1 each image at
effect_stays table (Whole begun steps) old new moved each image at =
    begun_stays table begun steps old new moved.0 moved.1.begun each image at
effect_stays table (Crashed up) old new moved each image at =
    subst (StaysOver table) (sym (moved.only image at)) (each up moved.was)

events_stay : (table : JobTable) (events : List Passed) (old : World) → PassShownFrom old events → EachStaysOver table old →
    EachStaysOver table (world_after old events)
events_stay table [] old pass each = each
events_stay table (event ∷ later) old pass each =
    events_stay table later event.left pass.1 (effect_stays table event.effect old event.left pass.0 each)

pub jobs_stay_over : JobsStayOver
jobs_stay_over table events old shows pass later shown =
    let end : World = world_after (only_jobs old) (passed_jobs events) in
    let opening : EachStaysOver table (only_jobs old) =
    λ image at. record { shown = table; shows = shows image at; least = le_refl table.last; none = λ number lives. inl lives } in
    let is : StaysOver table (reading end) =
    events_stay table (passed_jobs events) (only_jobs old) (pass_of_jobs old events pass) opening (reading end)
    (reading_is_image end.now.directory) in
    subst (NoJobLivesAgain table) (one_table (reading end) is.shown later is.shows shown) is.none
