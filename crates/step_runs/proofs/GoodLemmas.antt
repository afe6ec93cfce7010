-- Good directories stay good.
use Rattle.std.proofs.Common.{List, ◌∙◌, inl, inr}
use Rattle.host_calls.specs.declared.child.Handed.{Handed}
use Rattle.host_calls.specs.Directory.{Files}
use Rattle.host_calls.specs.World.{LeavesOnly, World}
use Rattle.host_calls.proofs.WorldLemmas.{at_end, leaves_weaker}
use Rattle.spool_model.specs.declared.step.Step.{Step}
use Rattle.spool_model.specs.JobTable.{JobTable}
use Rattle.spool_model.specs.Steps.{after_steps}
use Rattle.step_runs.specs.Attempts.{IsAsBefore, IsPartlyDone}
use Rattle.step_runs.specs.Calls.{ShowsAsBefore}
use Rattle.step_runs.specs.Good.{BegunAttemptsKeepGood, IsGood, IsGoodDirectory, KeepsGood, RecoveriesKeepGood, RunsKeepGood, StoreCallsKeepGood, UnbegunAttemptsKeepGood}
use Rattle.step_runs.specs.Runs.{IsAlong}

module _ (old new : World) (good : IsGoodDirectory old.now.directory) where
  -- where each moment since leaves good images alone, so does the end
  keeps_good : LeavesOnly (λ image handed. IsGood image) old new → KeepsGood old new
  keeps_good leaves = record { leaves = leaves; now = at_end (λ image handed. IsGood image) old new leaves good }

  -- an image that shows what one of the start shows is good
  shown_good : (image : Files) → ShowsAsBefore old.now.directory image → IsGood image
  shown_good image is = (let from : IsGood is.from = good is.from is.was in (from.0, is.same ∙ from.1))

  -- and so is one along the steps
  on_the_way_good : (table : JobTable) (steps : List Step) (image : Files) (handed : List Handed)
      → IsPartlyDone table steps old.now image handed → IsGood image
  on_the_way_good table steps image handed (inl before) = shown_good image before.0
  on_the_way_good table steps image handed (inr along) = (after_steps table along.stepping.prefix, along.stepping.shows)

pub recoveries_keep_good : RecoveriesKeepGood
recoveries_keep_good old new good changes = keeps_good old new good
    (leaves_weaker _ (λ image handed. IsGood image) old new (λ image handed is. shown_good old new good image is.0) changes.leaves)

pub store_calls_keep_good : StoreCallsKeepGood
store_calls_keep_good table steps old new shows changes = keeps_good old new (λ image is. (table, shows image is))
    (leaves_weaker _ (λ image handed. IsGood image) old new (λ image handed is. (after_steps table is.0.prefix, is.0.shows)) changes.leaves)

pub runs_keep_good : RunsKeepGood
runs_keep_good table steps old new good run = keeps_good old new good
    (leaves_weaker (IsAlong table steps old.now) (λ image handed. IsGood image) old new
    (λ image handed is. (after_steps table is.stepping.prefix, is.stepping.shows)) run.leaves)

pub unbegun_attempts_keep_good : UnbegunAttemptsKeepGood
unbegun_attempts_keep_good old new good unbegun = keeps_good old new good
    (leaves_weaker (IsAsBefore old.now) (λ image handed. IsGood image) old new
    (λ image handed is. shown_good old new good image is.0) unbegun.leaves)

pub begun_attempts_keep_good : BegunAttemptsKeepGood
begun_attempts_keep_good table steps old new good begun = keeps_good old new good
    (leaves_weaker (IsPartlyDone table steps old.now) (λ image handed. IsGood image) old new
    (on_the_way_good old new good table steps) begun.leaves)
