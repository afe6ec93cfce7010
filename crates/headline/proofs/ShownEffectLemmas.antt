-- An effect is one that is shown.
use Rattle.std.proofs.Common.{List, [], ◌∷◌, inl, inr}
use Rattle.host_calls.specs.declared.child.Handed.{Handed}
use Rattle.host_calls.specs.Directory.{Files}
use Rattle.host_calls.specs.World.{Moment, World}
use Rattle.host_calls.proofs.WorldLemmas.{leaves_weaker}
use Rattle.spool_model.specs.declared.step.Step.{Step}
use Rattle.spool_model.specs.JobTable.{JobTable}
use Rattle.step_runs.specs.Attempts.{IsAsBefore, IsBegun, IsPartlyDone}
use Rattle.step_runs.specs.Runs.{IsAlong}
use Rattle.headline.specs.Effects.{Crashed, PassFrom, Passed, Partial, Untouched, Whole}
use Rattle.headline.specs.Laws.{EffectsAreShown}
use Rattle.headline.specs.ShownEffects.{IsShownAlong, IsShownAsBefore, IsShownBegun, IsShownOnTheWay, PassShownFrom}

shown_before : (start : Moment) (image : Files) (handed : List Handed) → IsAsBefore start image handed → IsShownAsBefore start image handed
shown_before start image handed is = record { from = is.0.from; was = is.0.was; same = is.0.same; as_many = is.1 }

shown_along : (table : JobTable) (steps : List Step) (start : Moment) (image : Files) (handed : List Handed) →
    IsAlong table steps start image handed → IsShownAlong table steps start image handed
shown_along table steps start image handed is = record {
  prefix = is.stepping.prefix;
  is_prefix = is.stepping.is_prefix;
  shows = is.stepping.shows;
  given = is.given;
  grown = is.grown;
  hands = is.hands;
}

shown_on_the_way : (table : JobTable) (steps : List Step) (start : Moment) (image : Files) (handed : List Handed) →
    IsPartlyDone table steps start image handed → IsShownOnTheWay table steps start image handed
shown_on_the_way table steps start image handed is = elim is [
  | inl before ↦ inl (shown_before start image handed before)
  | inr along ↦ inr (shown_along table steps start image handed along)
]

shown_begun : (table : JobTable) (steps : List Step) (old new : World) → IsBegun table steps old new → IsShownBegun table steps old new
shown_begun table steps old new begun = record {
  shown = begun.shown;
  legal = begun.legal;
  leaves = leaves_weaker (IsPartlyDone table steps old.now) (IsShownOnTheWay table steps old.now) old new
      (shown_on_the_way table steps old.now) begun.leaves;
  now = λ image is. shown_along table steps old.now image new.now.handed (begun.now image is);
}

pub effects_are_shown : EffectsAreShown
effects_are_shown Untouched old new takes = record {
  leaves = leaves_weaker (IsAsBefore old.now) (IsShownAsBefore old.now) old new (shown_before old.now) takes.leaves;
  now = λ image is. shown_before old.now image new.now.handed (takes.now image is);
}
effects_are_shown (Partial table steps) old new takes = (takes.0, shown_begun table steps old new takes.1)
effects_are_shown (Whole table steps) old new takes =
    (takes.0, record { begun = shown_begun table steps old new takes.1.begun; whole = takes.1.whole })
effects_are_shown (Crashed image) old new takes = takes

-- and so is each of a list
pub events_are_shown : (old : World) (events : List Passed) → PassFrom old events → PassShownFrom old events
events_are_shown old [] pass = tt
events_are_shown old (event ∷ later) pass =
    (effects_are_shown event.effect old event.left pass.0, events_are_shown event.left later pass.1)
