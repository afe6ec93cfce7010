-- The headline of the scripts of jobs.
use Rattle.std.proofs.Common.{◌≡◌, false, List, [], ◌∷◌, sym, ap, subst, ◌∙◌, inl, inr}
use Rattle.host_calls.specs.declared.child.Handed.{Handed}
use Rattle.host_calls.specs.Directory.{Files, IsImage}
use Rattle.host_calls.specs.World.{Moment, World, reading}
use Rattle.spool_model.specs.declared.step.Step.{Step}
use Rattle.spool_model.specs.JobTable.{JobTable}
use Rattle.spool_model.specs.Steps.{AreLegal, FollowDraws}
use Rattle.spool_shows.specs.Shown.{Shows}
use Rattle.step_runs.specs.Hands.{HandsByNow}
use Rattle.headline.specs.Effects.{ComesUpWith, Crashed, Partial, Untouched, Whole}
use Rattle.headline.specs.ShownEffects.{IsShownAlong, IsShownAsBefore, IsShownBegun, IsShownOnTheWay, PassShownFrom, TakesShownEffect}
use Rattle.headline.proofs.HeadlineLemmas.{shown_events_hand_once}
use Rattle.later_day.specs.EffectLaws.{LaterEventsHandOnce}
use Rattle.later_day.specs.LaterEffects.{Beside, DoOneThing, LeavesJobsAlone, LaterEffect, LaterPassFrom, LaterPassed, OfTable, TakesLaterEffect, effect_on_table, jobs_at, of_jobs, only_jobs, passed_jobs}
use Rattle.later_day.proofs.OnlyJobs.{leaves_of_jobs, of_both}
use Rattle.later_day.proofs.StartedJobs.{given_are_of_jobs}

before_of_jobs : (start : Moment) (image : Files) (handed : List Handed) → IsShownAsBefore start image handed →
    IsShownAsBefore (jobs_at start) image (of_jobs handed)
before_of_jobs start image handed is = record { from = is.from; was = is.was; same = is.same; as_many = ap of_jobs is.as_many }

beside_of_jobs : (start : Moment) (image : Files) (handed : List Handed) → LeavesJobsAlone start image handed →
    IsShownAsBefore (jobs_at start) image (of_jobs handed)
beside_of_jobs start image handed is = record { from = is.from; was = is.was; same = is.same; as_many = is.as_many }

along_of_jobs : (files : Files) (table : JobTable) (steps : List Step) (start : Moment) → Shows files table → AreLegal table steps →
    FollowDraws false steps → DoOneThing steps → (image : Files) (handed : List Handed) → IsShownAlong table steps start image handed →
    IsShownAlong table steps (jobs_at start) image (of_jobs handed)
along_of_jobs files table steps start shown legal follow one image handed is = record {
  prefix = is.prefix;
  is_prefix = is.is_prefix;
  shows = is.shows;
  given = of_jobs is.given;
  grown = ap of_jobs is.grown ∙ of_both start.handed is.given;
  hands = subst (HandsByNow table is.prefix)
      (sym (given_are_of_jobs files table steps is.prefix is.given shown legal follow one is.is_prefix is.hands)) is.hands;
}

on_the_way_of_jobs : (files : Files) (table : JobTable) (steps : List Step) (start : Moment) → Shows files table → AreLegal table steps →
    FollowDraws false steps → DoOneThing steps → (image : Files) (handed : List Handed) → IsShownOnTheWay table steps start image handed →
    IsShownOnTheWay table steps (jobs_at start) image (of_jobs handed)
on_the_way_of_jobs files table steps start shown legal follow one image handed is = elim is [
  | inl before ↦ inl (before_of_jobs start image handed before)
  | inr along ↦ inr (along_of_jobs files table steps start shown legal follow one image handed along)
]

begun_of_jobs : (table : JobTable) (steps : List Step) (old new : World) → FollowDraws false steps → DoOneThing steps →
    IsShownBegun table steps old new → IsShownBegun table steps (only_jobs old) (only_jobs new)
begun_of_jobs table steps old new follow one begun = record {
  shown = begun.shown;
  legal = begun.legal;
  leaves = leaves_of_jobs (IsShownOnTheWay table steps old.now) (IsShownOnTheWay table steps (jobs_at old.now)) old new
      (on_the_way_of_jobs (reading old) table steps old.now begun.shown begun.legal follow one) begun.leaves;
  now = λ image is.
      along_of_jobs (reading old) table steps old.now begun.shown begun.legal follow one image new.now.handed (begun.now image is);
}

crash_of_jobs : (image : Files) (old new : World) → ComesUpWith image old new → ComesUpWith image (only_jobs old) (only_jobs new)
crash_of_jobs image old new up = record {
  was = up.was;
  only = up.only;
  handed = ap of_jobs up.handed;
  leaves = leaves_of_jobs (λ other handed. IsImage old.now.directory other × (handed ≡ old.now.handed))
      (λ other handed. IsImage old.now.directory other × (handed ≡ of_jobs old.now.handed)) old new
      (λ other handed is. (is.0, ap of_jobs is.1)) up.leaves;
}

takes_of_jobs : (effect : LaterEffect) (old new : World) → TakesLaterEffect effect old new →
    TakesShownEffect (effect_on_table effect) (only_jobs old) (only_jobs new)
takes_of_jobs (OfTable Untouched) old new takes = record {
  leaves = leaves_of_jobs (IsShownAsBefore old.now) (IsShownAsBefore (jobs_at old.now)) old new (before_of_jobs old.now) takes.1.leaves;
  now = λ image is. before_of_jobs old.now image new.now.handed (takes.1.now image is);
}
takes_of_jobs (OfTable (Partial table steps)) old new takes =
    (takes.1.0, begun_of_jobs table steps old new takes.1.0 takes.0 takes.1.1)
takes_of_jobs (OfTable (Whole table steps)) old new takes =
    (takes.1.0, record { begun = begun_of_jobs table steps old new takes.1.0 takes.0 takes.1.1.begun; whole = takes.1.1.whole })
takes_of_jobs (OfTable (Crashed image)) old new takes = crash_of_jobs image old new takes.1
takes_of_jobs Beside old new takes = record {
  leaves = leaves_of_jobs (LeavesJobsAlone old.now) (IsShownAsBefore (jobs_at old.now)) old new (beside_of_jobs old.now) takes.leaves;
  now = λ image is. beside_of_jobs old.now image new.now.handed (takes.now image is);
}

pub pass_of_jobs : (old : World) (events : List LaterPassed) → LaterPassFrom old events → PassShownFrom (only_jobs old) (passed_jobs events)
pass_of_jobs old [] pass = tt
pass_of_jobs old (event ∷ later) pass = (takes_of_jobs event.effect old event.left pass.0, pass_of_jobs event.left later pass.1)

pub later_events_hand_once : LaterEventsHandOnce
later_events_hand_once opening events old shows pass =
    shown_events_hand_once opening (passed_jobs events) (only_jobs old) shows (pass_of_jobs old events pass)
