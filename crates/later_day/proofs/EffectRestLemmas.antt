-- An effect leaves all files alone that are none of the store's.
use Rattle.std.proofs.Common.{◌≡◌, false, List, [], append-nil, refl, sym, subst, ◌∙◌, inl, inr}
use Rattle.host_calls.specs.declared.child.Handed.{Handed}
use Rattle.host_calls.specs.Directory.{Files, IsImage}
use Rattle.host_calls.specs.World.{Moment, World, reading}
use Rattle.host_calls.proofs.WorldLemmas.{leaves_weaker}
use Rattle.spool_model.specs.declared.step.Step.{Step}
use Rattle.spool_model.specs.JobTable.{JobTable}
use Rattle.spool_model.specs.Steps.{FollowDraws}
use Rattle.step_runs.specs.Attempts.{IsAsBefore, IsBegun, IsPartlyDone}
use Rattle.step_runs.specs.Current.{IsSpoolName}
use Rattle.step_runs.specs.Runs.{IsAlong}
use Rattle.whole_file.specs.Others.{LeavesOthers}
use Rattle.whole_file.proofs.ChangesJoined.{left_alone}
use Rattle.headline.specs.Effects.{Crashed, Partial, Untouched, Whole}
use Rattle.later_day.specs.EffectLaws.{EffectsLeaveTheRest}
use Rattle.later_day.specs.LaterEffects.{DoOneThing, IsBesideTheStore, LeavesTheRest}
use Rattle.later_day.proofs.StartedJobs.{given_are_of_jobs}

-- nothing was started
nothing_given : (start : Moment) (image : Files) (handed : List Handed) → LeavesOthers IsSpoolName start.directory image →
    handed ≡ start.handed → IsBesideTheStore start image handed
nothing_given start image handed alone same =
    record { others = alone; given = []; grown = same ∙ sym (append-nil start.handed); jobs = refl }

before_leaves : (start : Moment) (image : Files) (handed : List Handed) → IsAsBefore start image handed →
    IsBesideTheStore start image handed
before_leaves start image handed is =
    nothing_given start image handed (record { from = is.0.from; was = is.0.was; others = is.0.others }) is.1

module _ (table : JobTable) (steps : List Step) (old new : World) (follow : FollowDraws false steps) (one : DoOneThing steps)
    (begun : IsBegun table steps old new) where
  along_leaves : (image : Files) (handed : List Handed) → IsAlong table steps old.now image handed →
      IsBesideTheStore old.now image handed
  along_leaves image handed is = record {
    others = is.stepping.others;
    given = is.given;
    grown = is.grown;
    jobs = given_are_of_jobs (reading old) table steps is.stepping.prefix is.given begun.shown begun.legal follow one
        is.stepping.is_prefix is.hands;
  }

  way_leaves : (image : Files) (handed : List Handed) → IsPartlyDone table steps old.now image handed →
      IsBesideTheStore old.now image handed
  way_leaves image handed is = elim is [
    | inl before ↦ before_leaves old.now image handed before
    | inr along ↦ along_leaves image handed along
  ]

  begun_leaves : LeavesTheRest old new
  begun_leaves = record {
    leaves = leaves_weaker (IsPartlyDone table steps old.now) (IsBesideTheStore old.now) old new way_leaves begun.leaves;
    now = λ image is. along_leaves image new.now.handed (begun.now image is);
  }

crash_leaves : (start : Moment) (image : Files) (handed : List Handed) →
    IsImage start.directory image × (handed ≡ start.handed) → IsBesideTheStore start image handed
crash_leaves start image handed is =
    nothing_given start image handed (left_alone IsSpoolName start.directory image is.0) is.1

pub effects_leave_the_rest : EffectsLeaveTheRest
effects_leave_the_rest Untouched old new one takes = record {
  leaves = leaves_weaker (IsAsBefore old.now) (IsBesideTheStore old.now) old new (before_leaves old.now) takes.leaves;
  now = λ image is. before_leaves old.now image new.now.handed (takes.now image is);
}
effects_leave_the_rest (Partial table steps) old new one takes = begun_leaves table steps old new takes.0 one takes.1
effects_leave_the_rest (Whole table steps) old new one takes = begun_leaves table steps old new takes.0 one takes.1.begun
effects_leave_the_rest (Crashed image) old new one takes = record {
  leaves = leaves_weaker (λ other handed. IsImage old.now.directory other × (handed ≡ old.now.handed)) (IsBesideTheStore old.now) old new
      (crash_leaves old.now) takes.leaves;
  now = λ other is. crash_leaves old.now other new.now.handed
      (subst (IsImage old.now.directory) (sym (takes.only other is)) takes.was, takes.handed);
}
