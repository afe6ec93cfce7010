-- Steps that were cut off within a call that makes more than one.
use Rattle.std.proofs.Common.{◌≡◌, List, ◌++◌, append_assoc, sym, ap, subst, ◌∙◌}
use Rattle.host_calls.specs.Directory.{Files}
use Rattle.spool_model.specs.declared.step.Step.{Step}
use Rattle.spool_model.specs.JobTable.{JobTable}
use Rattle.spool_model.specs.Steps.{AreLegal, after_steps}
use Rattle.spool_shows.specs.Shown.{Shows}
use Rattle.step_runs.specs.Made.{ShowsAfterPrefix}
use Rattle.step_runs.specs.MadeLaws.{CallsAreCutOff, StepsAreCutOffAfter}
use Rattle.step_runs.specs.Runs.{IsAlong, Runs}
use Rattle.step_runs.proofs.HandsLemmas.{steps_then}
use Rattle.step_runs.proofs.MadeLemmas.{legal_then}
use Rattle.step_runs.proofs.RunLemmas.{calls_are_runs, runs_go_on}

pub calls_are_cut_off : CallsAreCutOff
calls_are_cut_off table steps old new legal quiet shows call =
    let run : Runs table steps old new = calls_are_runs table steps old new quiet shows call in
    record {
      legal = legal;
      run = run;
      ends = λ image is.
          let along : IsAlong table steps old.now image new.now.handed = run.now image is in
          record { prefix = along.stepping.prefix; is_prefix = along.stepping.is_prefix; shows = along.stepping.shows };
    }

-- an image after later steps is one after all
shows_after : (table : JobTable) (first later next : List Step) (image : Files)
    → ShowsAfterPrefix (after_steps table first) later next image →
    ShowsAfterPrefix table (first ++ later) next image
shows_after table first later next image is = record {
  prefix = is.prefix;
  is_prefix = is.is_prefix;
  shows = subst (Shows image)
      (sym (steps_then table first (later ++ is.prefix)) ∙ ap (after_steps table) (sym (append_assoc first later is.prefix))) is.shows;
}

pub steps_are_cut_off_after : StepsAreCutOffAfter
steps_are_cut_off_after table first later next given questions kept start middle end before after = record {
  legal = subst (AreLegal table) regrouped (legal_then table first (later ++ next) before.legal after.legal);
  run = subst (λ (steps : List Step). Runs table steps start end) regrouped
      (runs_go_on table first (later ++ next) given start middle end before.through after.run);
  ends = λ image is. shows_after table first later next image (after.ends image is);
} where
  regrouped : first ++ (later ++ next) ≡ (first ++ later) ++ next
  regrouped = sym (append_assoc first later next)
