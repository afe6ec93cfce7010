-- Runs of steps, one after another.
use Rattle.std.proofs.Common.{◌≡◌, List, [], ◌∷◌, ◌++◌, append_assoc, append-nil, sym, ap, subst, ◌∙◌, refl, inl}
use Rattle.host_calls.specs.declared.child.Handed.{Handed}
use Rattle.host_calls.specs.Directory.{Files, Directory, IsImage}
use Rattle.host_calls.specs.World.{HasEachImage, LeavesOnly, Moment, World}
use Rattle.host_calls.proofs.WorldLemmas.{at_end, leaves_then, leaves_weaker}
use Rattle.spool_model.specs.declared.step.Step.{Step}
use Rattle.spool_model.specs.JobTable.{JobTable}
use Rattle.spool_model.specs.Steps.{after_steps}
use Rattle.spool_shows.specs.Shown.{Shows}
use Rattle.whole_file.specs.Others.{ChangesFiles, LeavesOthers}
use Rattle.step_runs.specs.Calls.{IsSteppingOn}
use Rattle.step_runs.specs.Current.{EachShows, IsSpoolName}
use Rattle.step_runs.specs.Hands.{HandsByNow, StartNothing}
use Rattle.step_runs.specs.Laws.{CallsAreRuns, PrefixesRunAsTheSteps, OneStepIsARun, RunsGoOn, RunsGoThrough}
use Rattle.step_runs.specs.Runs.{IsAlong, Runs, RunsThrough}
use Rattle.step_runs.proofs.HandsLemmas.{by_now_then, prefix_after, prefix_longer, prefix_of_one, hands_then, quiet_prefix, steps_then}

-- what leaves the files of an image alone leaves those alone that the image left
pub others_then : (start middle : Directory) (image : Files) →
    ((from : Files) → IsImage middle from → LeavesOthers IsSpoolName start from) → LeavesOthers IsSpoolName middle image →
    LeavesOthers IsSpoolName start image
others_then start middle image before after = record {
  from = (before after.from after.was).from;
  was = (before after.from after.was).was;
  others = λ name other. after.others name other ∙ (before after.from after.was).others name other;
}

-- an image along steps is along more of them
along_longer : (table : JobTable) (first later : List Step) (start : Moment) (image : Files) (handed : List Handed) →
    IsAlong table first start image handed → IsAlong table (first ++ later) start image handed
along_longer table first later start image handed is = record {
  stepping = record {
    prefix = is.stepping.prefix;
    is_prefix = prefix_longer is.stepping.prefix first later is.stepping.is_prefix;
    shows = is.stepping.shows;
    others = is.stepping.others;
  };
  given = is.given;
  grown = is.grown;
  hands = is.hands;
}

-- an image along later steps is along all, where the earlier ones took effect and have started all
along_after : (table : JobTable) (first later : List Step) (given : List Handed) (start middle : World) →
    RunsThrough table first given start middle → (image : Files) (handed : List Handed) →
    IsAlong (after_steps table first) later middle.now image handed → IsAlong table (first ++ later) start.now image handed
along_after table first later given start middle before image handed is = record {
  stepping = record {
    prefix = first ++ is.stepping.prefix;
    is_prefix = prefix_after first is.stepping.prefix later is.stepping.is_prefix;
    shows = subst (Shows image) (sym (steps_then table first is.stepping.prefix)) is.stepping.shows;
    others = others_then start.now.directory middle.now.directory image
        (λ from was. (before.run.now from was).stepping.others) is.stepping.others;
  };
  given = given ++ is.given;
  grown = is.grown ∙ ap (λ (l : List Handed). l ++ is.given) before.handed ∙ append_assoc start.now.handed given is.given;
  hands = by_now_then table first is.stepping.prefix given is.given before.hands is.hands;
}

pub prefixes_run_as_the_steps : PrefixesRunAsTheSteps
prefixes_run_as_the_steps table prefix steps old new is run = subst (λ (all : List Step). Runs table all old new) (sym is.1) (record {
  leaves = leaves_weaker _ _ old new (along_longer table prefix is.0 old.now) run.leaves;
  now = λ image was. along_longer table prefix is.0 old.now image new.now.handed (run.now image was);
})

pub runs_go_on : RunsGoOn
runs_go_on table first later given start middle end before after =
    let weaker : (image : Files) (handed : List Handed) → IsAlong (after_steps table first) later middle.now image handed
    → IsAlong table (first ++ later) start.now image handed =
    along_after table first later given start middle before in
    record {
      leaves = leaves_then (IsAlong table (first ++ later) start.now) start middle end
          (leaves_weaker (IsAlong table first start.now) _ start middle (along_longer table first later start.now) before.run.leaves)
          (leaves_weaker (IsAlong (after_steps table first) later middle.now) _ middle end weaker after.leaves);
      now = λ image is. weaker image end.now.handed (after.now image is);
    }

pub runs_go_through : RunsGoThrough
runs_go_through table first later given more start middle end before after = record {
  run = runs_go_on table first later given start middle end before after.run;
  whole = λ image is. subst (Shows image) (sym (steps_then table first later)) (after.whole image is);
  handed = after.handed ∙ ap (λ (l : List Handed). l ++ more) before.handed ∙ append_assoc start.now.handed given more;
  hands = hands_then table first later given more before.hands after.hands;
}

-- the images of the start are along any steps: none of them has taken effect yet
pub along_none : (table : JobTable) (steps : List Step) (start : Moment) → EachShows start.directory table →
    HasEachImage (IsAlong table steps start) start
along_none table steps start shows image is = record {
  stepping = record {
    prefix = [];
    is_prefix = (steps, refl);
    shows = shows image is;
    others = record { from = image; was = is; others = λ name other. refl };
  };
  given = [];
  grown = sym (append-nil start.handed);
  hands = inl refl;
}

-- a call that makes steps is a run of them, where each prefix may have started nothing
call_is_run : (table : JobTable) (steps : List Step) (old new : World) →
    ((prefix after : List Step) → steps ≡ prefix ++ after → HandsByNow table prefix []) → EachShows old.now.directory table →
    ChangesFiles (IsSteppingOn table steps old.now.directory) old new → Runs table steps old new
call_is_run table steps old new quiet shows call =
    let leaves : LeavesOnly (IsAlong table steps old.now) old new = leaves_weaker _ _ old new (λ image handed is. record {
      stepping = is.0;
      given = [];
      grown = is.1 ∙ sym (append-nil old.now.handed);
      hands = quiet is.0.prefix is.0.is_prefix.0 is.0.is_prefix.1;
    }) call.leaves in
    record { leaves = leaves; now = at_end (IsAlong table steps old.now) old new leaves (along_none table steps old.now shows) }

pub calls_are_runs : CallsAreRuns
calls_are_runs table steps old new quiet =
    call_is_run table steps old new (λ prefix after is. inl (quiet_prefix table prefix after (subst StartNothing is quiet)))

pub one_step_is_a_run : OneStepIsARun
one_step_is_a_run table step old new = call_is_run table (step ∷ []) old new (prefix_of_one table step)
