-- Which table each image shows after the events.
use Rattle.std.proofs.Common.{◌≡◌, List, [], ◌∷◌, subst, sym, ◌∙◌, refl}
use Rattle.std.specs.Prelude.{Ok}
use Rattle.host_calls.specs.Directory.{Files, IsImage}
use Rattle.host_calls.specs.World.{World, reading}
use Rattle.host_calls.proofs.DirectoryLemmas.{reading_is_image}
use Rattle.spool_model.specs.declared.step.Step.{Step}
use Rattle.spool_model.specs.JobTable.{JobTable}
use Rattle.spool_model.specs.Steps.{after_steps}
use Rattle.spool_shows.specs.Shown.{Shows}
use Rattle.step_runs.specs.Current.{EachShows}
use Rattle.headline.specs.Headline.{IsMadeOf, IsTableAfter}
use Rattle.headline.specs.Effects.{Whole, Partial, Crashed, Effect, Passed, Untouched, world_after}
use Rattle.headline.specs.ShownEffects.{IsShownAlong, IsShownAsBefore, PassShownFrom, TakesShownEffect}

-- the directory shows one table
pub one_table : (files : Files) (one other : JobTable) → Shows files one → Shows files other → one ≡ other
one_table files one other shows too =
    let both : ◌≡◌ (Ok one) (Ok other) = sym shows ∙ too in
    cc

-- the table that an image shows after an event is that of an image before it, after what was made of the event
record ComesOf (effect : Effect) (old : World) (table : JobTable) : Type 0 where
  from : Files
  was : IsImage old.now.directory from
  before : JobTable
  shows : Shows from before
  part : List Step
  made : IsMadeOf effect part
  after : table ≡ after_steps before part

comes_of : (effect : Effect) (old new : World) → TakesShownEffect effect old new → (image : Files) → IsImage new.now.directory image →
    (table : JobTable) → Shows image table → ComesOf effect old table
comes_of Untouched old new moved image is table shows =
    let before : IsShownAsBefore old.now image new.now.handed = moved.now image is in
    record {
      from = before.from;
      was = before.was;
      before = table;
      shows = sym before.same ∙ shows;
      part = [];
      made = refl;
      after = refl;
    }
comes_of (Partial begun steps) old new moved image is table shows =
    let along : IsShownAlong begun steps old.now image new.now.handed = moved.1.now image is in
    record {
      from = reading old;
      was = reading_is_image old.now.directory;
      before = begun;
      shows = moved.1.shown;
      part = along.prefix;
      made = along.is_prefix;
      after = one_table image table (after_steps begun along.prefix) shows along.shows;
    }
comes_of (Whole begun steps) old new moved image is table shows = record {
  from = reading old;
  was = reading_is_image old.now.directory;
  before = begun;
  shows = moved.1.begun.shown;
  part = steps;
  made = refl;
  after = one_table image table (after_steps begun steps) shows (moved.1.whole image is);
}
comes_of (Crashed left) old new moved image is table shows = record {
  from = left;
  was = moved.was;
  before = table;
  shows = subst (λ (files : Files). Shows files table) (moved.only image is) shows;
  part = [];
  made = refl;
  after = refl;
}

-- the table that an image shows after the events comes by them of what an image before them shows
come_of : (old : World) (events : List Passed) → PassShownFrom old events → (image : Files) →
    IsImage (world_after old events).now.directory image → (table : JobTable) → Shows image table →
    (from : Files) × IsImage old.now.directory from × (opening : JobTable) × Shows from opening × IsTableAfter opening events table
come_of old [] pass image is table shows = (image, is, table, shows, refl)
come_of old (event ∷ later) pass image is table shows =
    let later_of : (from : Files) × IsImage event.left.now.directory from × (opening : JobTable) × Shows from opening
    × IsTableAfter opening later table =
    come_of event.left later pass.1 image is table shows in
    let here : ComesOf event.effect old later_of.2 =
    comes_of event.effect old event.left pass.0 later_of.0 later_of.1 later_of.2 later_of.3 in (
      here.from,
      here.was,
      here.before,
      here.shows,
      (here.part, here.made, subst (λ (t : JobTable). IsTableAfter t later table) here.after later_of.4),
    )

-- where each image showed the opening table, it comes of that
pub tables_after : (opening : JobTable) (events : List Passed) (old : World) → EachShows old.now.directory opening →
    PassShownFrom old events → (image : Files) → IsImage (world_after old events).now.directory image → (table : JobTable) →
    Shows image table → IsTableAfter opening events table
tables_after opening events old each pass image is table shows =
    let of : (from : Files) × IsImage old.now.directory from × (opening : JobTable) × Shows from opening
    × IsTableAfter opening events table =
    come_of old events pass image is table shows in
    subst (λ (t : JobTable). IsTableAfter t events table) (one_table of.0 of.2 opening of.3 (each of.0 of.1)) of.4
