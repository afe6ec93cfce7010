-- A recovery, and a run after it.
use Rattle.std.proofs.Common.{List, ◌++◌, ap, ◌∙◌, refl, inl, inr}
use Rattle.host_calls.specs.declared.child.Handed.{Handed}
use Rattle.host_calls.specs.Directory.{Files, IsImage}
use Rattle.host_calls.specs.World.{HasEachImage, Moment, World}
use Rattle.host_calls.proofs.WorldLemmas.{at_end, leaves_then, leaves_weaker}
use Rattle.spool_model.specs.declared.step.Step.{Step}
use Rattle.spool_model.specs.JobTable.{JobTable}
use Rattle.whole_file.specs.Others.{ChangesFiles, LeavesOthers}
use Rattle.step_runs.specs.Attempts.{IsAsBefore, IsPartlyDone}
use Rattle.step_runs.specs.Calls.{ShowsAsBefore}
use Rattle.step_runs.specs.Current.{IsSpoolName}
use Rattle.step_runs.specs.Laws.{RecoveriesBeginNothing, RunsAfterRecoveries}
use Rattle.step_runs.specs.Runs.{IsAlong}
use Rattle.step_runs.proofs.RunLemmas.{others_then}

-- an image of the start is as before
as_before_none : (start : Moment) → HasEachImage (IsAsBefore start) start
as_before_none start image is = (record { from = image; was = is; same = refl; others = λ name other. refl }, refl)

-- after a recovery each image is as before
as_before : (start end : World) → ChangesFiles (ShowsAsBefore start.now.directory) start end →
    HasEachImage (IsAsBefore start.now) end.now
as_before start end recovery = at_end (IsAsBefore start.now) start end recovery.leaves (as_before_none start.now)

pub recoveries_begin_nothing : RecoveriesBeginNothing
recoveries_begin_nothing start end recovery = record { leaves = recovery.leaves; now = as_before start end recovery }

-- an image along steps since the end of a recovery is along them since its start
along_before : (table : JobTable) (steps : List Step) (start middle : World) →
    ChangesFiles (ShowsAsBefore start.now.directory) start middle → (image : Files) (handed : List Handed) →
    IsAlong table steps middle.now image handed → IsAlong table steps start.now image handed
along_before table steps start middle recovery image handed is = record {
  stepping = record {
    prefix = is.stepping.prefix;
    is_prefix = is.stepping.is_prefix;
    shows = is.stepping.shows;
    others = others_then start.now.directory middle.now.directory image left is.stepping.others;
  };
  given = is.given;
  grown = is.grown ∙ ap (λ (l : List Handed). l ++ is.given) recovery.handed;
  hands = is.hands;
} where
  left : (from : Files) → IsImage middle.now.directory from → LeavesOthers IsSpoolName start.now.directory from
  left from was = let before : ShowsAsBefore start.now.directory from = (as_before start middle recovery from was).0 in
      record { from = before.from; was = before.was; others = before.others }

pub runs_after_recoveries : RunsAfterRecoveries
runs_after_recoveries table steps start middle end shown recovery legal run =
    let weaker : (image : Files) (handed : List Handed) → IsAlong table steps middle.now image handed
    → IsAlong table steps start.now image handed =
    along_before table steps start middle recovery in
    record {
      shown = shown;
      legal = legal;
      leaves = leaves_then (IsPartlyDone table steps start.now) start middle end
          (leaves_weaker (IsAsBefore start.now) _ start middle (λ image handed is. inl is) recovery.leaves)
          (leaves_weaker (IsAlong table steps middle.now) _ middle end (λ image handed is. inr (weaker image handed is)) run.leaves);
      now = λ image is. weaker image end.now.handed (run.now image is);
    }
