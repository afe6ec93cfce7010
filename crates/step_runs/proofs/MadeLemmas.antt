-- Steps that were made, or stopped on the way, one part after another.
use Rattle.std.proofs.Common.{◌≡◌, ◌⊎◌, List, [], ◌∷◌, ◌++◌, append_assoc, append-nil, sym, ap, subst, ◌∙◌, refl, inl, inr, arith}
use Rattle.host_calls.specs.declared.child.Asked.{Asked}
use Rattle.host_calls.specs.declared.child.Handed.{Handed}
use Rattle.host_calls.specs.Directory.{Files}
use Rattle.host_calls.specs.World.{World}
use Rattle.host_calls.proofs.WorldLemmas.{leaves_none, leaves_then, leaves_weaker}
use Rattle.spool_model.specs.declared.step.Step.{Step}
use Rattle.spool_model.specs.JobTable.{JobTable}
use Rattle.spool_model.specs.Steps.{AreLegal, after_step, after_steps}
use Rattle.spool_shows.specs.Shown.{Shows}
use Rattle.whole_file.specs.Others.{ChangesFiles}
use Rattle.step_runs.specs.Calls.{IsSteppingOn}
use Rattle.step_runs.specs.Current.{IsCurrent}
use Rattle.step_runs.specs.Hands.{StartNothing}
use Rattle.step_runs.specs.Made.{AreMade, HandsPrefixes}
use Rattle.step_runs.specs.MadeLaws.{CallsMakeTheirSteps, CallsStopAtTheirStep, MadeStepsAreAchieved, MadeStepsAreStopped, NoStepsAreMade, QuestionsMakeNoStep, StepsAreMadeAfter, StepsAreStoppedAfter, StoppedStepsAreBegun}
use Rattle.step_runs.specs.Runs.{IsAlong, Runs}
use Rattle.step_runs.proofs.AttemptLemmas.{runs_after_recoveries}
use Rattle.step_runs.proofs.HandsLemmas.{hands_then, quiet_prefix, steps_then}
use Rattle.step_runs.proofs.RunLemmas.{along_none, calls_are_runs, one_step_is_a_run, runs_go_on, runs_go_through}

-- What was started by each moment.

pub prefixes_none : (old new : World) → new ≡ old → HandsPrefixes old new
prefixes_none old new same = leaves_none _ old new same

pub prefixes_then : (start middle end : World) (more : List Handed) → HandsPrefixes start middle → HandsPrefixes middle end →
    end.now.handed ≡ middle.now.handed ++ more → HandsPrefixes start end
prefixes_then start middle end more before after grown =
    leaves_then _ start middle end
    (leaves_weaker _ _ start middle
    (λ image handed is. (is.0 ++ more, grown ∙ ap (λ (l : List Handed). l ++ more) is.1 ∙ append_assoc handed is.0 more)) before)
    after

-- a call that starts nothing
pub prefixes_changed : (P : Files → Type 0) (old new : World) → ChangesFiles P old new → HandsPrefixes old new
prefixes_changed P old new changes =
    leaves_weaker _ _ old new (λ image handed is. ([], changes.handed ∙ sym is.1 ∙ sym (append-nil handed))) changes.leaves

-- steps are legal after legal ones
pub legal_then : (table : JobTable) (first later : List Step) → AreLegal table first → AreLegal (after_steps table first) later →
    AreLegal table (first ++ later)
legal_then table [] later before after = after
legal_then table (step ∷ others) later before after = (before.0, legal_then (after_step table step) others later before.1 after)

pub no_steps_are_made : NoStepsAreMade
no_steps_are_made table kept world current = record {
  through = record {
    run = record {
      leaves = leaves_none (IsAlong table [] world.now) world world refl;
      now = along_none table [] world.now current.shows;
    };
    whole = current.shows;
    handed = sym (append-nil world.now.handed);
    hands = refl;
  };
  current = current;
  others = λ name other. refl;
  legal = tt;
  prefixes = prefixes_none world world refl;
  asked = sym (append-nil world.asked);
}

pub steps_are_made_after : StepsAreMadeAfter
steps_are_made_after table first later given more questions others kept last start middle end before after = record {
  through = runs_go_through table first later given more start middle end before.through after.through;
  current = subst (IsCurrent last end.now.directory) (sym (steps_then table first later)) after.current;
  others = λ name other. after.others name other ∙ before.others name other;
  legal = legal_then table first later before.legal after.legal;
  prefixes = prefixes_then start middle end more before.prefixes after.prefixes after.through.handed;
  asked = after.asked ∙ ap (λ (l : List Asked). l ++ others) before.asked ∙ append_assoc start.asked questions others;
}

pub steps_are_stopped_after : StepsAreStoppedAfter
steps_are_stopped_after table first later next given more questions others kept start middle end before after = record {
  few = after.few;
  legal = subst (AreLegal table) regrouped (legal_then table first (later ++ next) before.legal after.legal);
  run = subst (λ (steps : List Step). Runs table steps start end) regrouped
      (runs_go_on table first (later ++ next) given start middle end before.through after.run);
  ends = λ image is. elim (after.ends image is) [
    | inl without ↦ inl (subst (Shows image) (sym (steps_then table first later)) without)
    | inr with_next ↦ inr (subst (Shows image)
        (sym (steps_then table first (later ++ next)) ∙ ap (after_steps table) regrouped) with_next)
  ];
  handed = after.handed ∙ ap (λ (l : List Handed). l ++ more) before.through.handed ∙ append_assoc start.now.handed given more;
  hands = hands_then table first later given more before.through.hands after.hands;
  prefixes = prefixes_then start middle end more before.prefixes after.prefixes after.handed;
  asked = after.asked ∙ ap (λ (l : List Asked). l ++ others) before.asked ∙ append_assoc start.asked questions others;
} where
  regrouped : first ++ (later ++ next) ≡ (first ++ later) ++ next
  regrouped = sym (append_assoc first later next)

pub made_steps_are_stopped : MadeStepsAreStopped
made_steps_are_stopped table steps given questions kept old new made = record {
  few = omega arith;
  legal = subst (AreLegal table) same made.legal;
  run = subst (λ (all : List Step). Runs table all old new) same made.through.run;
  ends = λ image is. inl (made.through.whole image is);
  handed = made.through.handed;
  hands = made.through.hands;
  prefixes = made.prefixes;
  asked = made.asked;
} where
  same : steps ≡ steps ++ []
  same = sym (append-nil steps)

-- Calls of the store.

pub calls_make_their_steps : CallsMakeTheirSteps
calls_make_their_steps table steps kept old new legal quiet shows call current others = record {
  through = record {
    run = calls_are_runs table steps old new quiet shows call;
    whole = current.shows;
    handed = call.handed ∙ sym (append-nil old.now.handed);
    hands = quiet_prefix table steps [] (subst StartNothing (sym (append-nil steps)) quiet);
  };
  current = current;
  others = others;
  legal = legal;
  prefixes = prefixes_changed (IsSteppingOn table steps old.now.directory) old new call;
  asked = call.asked ∙ sym (append-nil old.asked);
}

-- what shows the table after a prefix of one step shows it without the step or with it
without_or_with : (table : JobTable) (step : Step) (image : Files) (prefix after : List Step) → step ∷ [] ≡ prefix ++ after →
    Shows image (after_steps table prefix) → Shows image table ⊎ Shows image (after_step table step)
without_or_with table step image [] after is shows = inl shows
without_or_with table step image (one ∷ []) after is shows =
    let same : one ≡ step = cc in
    inr (subst (λ (of : Step). Shows image (after_step table of)) same shows)
without_or_with table step image (one ∷ other ∷ others) after is shows =
    let impossible : ◌≡◌ {A = List Step} [] (other ∷ others ++ after) = cc in cc

pub calls_stop_at_their_step : CallsStopAtTheirStep
calls_stop_at_their_step table step old new legal shows call =
    let run : Runs table (step ∷ []) old new = one_step_is_a_run table step old new shows call in
    record {
      few = omega arith;
      legal = (legal, tt);
      run = run;
      ends = λ image is.
          let along : IsAlong table (step ∷ []) old.now image new.now.handed = run.now image is in
          without_or_with table step image along.stepping.prefix along.stepping.is_prefix.0 along.stepping.is_prefix.1 along.stepping.shows;
      handed = call.handed ∙ sym (append-nil old.now.handed);
      hands = refl;
      prefixes = prefixes_changed (IsSteppingOn table (step ∷ []) old.now.directory) old new call;
      asked = call.asked ∙ sym (append-nil old.asked);
    }

-- Questions.

pub questions_make_no_step : QuestionsMakeNoStep
questions_make_no_step table kept child answer old new current asks =
    subst (AreMade table [] [] (record { child = child; answer = answer } ∷ []) kept old) (sym asks.0) (record {
      through = record {
        run = record { leaves = record { more = []; run = refl; each = tt }; now = along_none table [] old.now current.shows };
        whole = current.shows;
        handed = sym (append-nil old.now.handed);
        hands = refl;
      };
      current = current;
      others = λ name other. refl;
      legal = tt;
      prefixes = record { more = []; run = refl; each = tt };
      asked = refl;
    })

-- After a recovery.

pub made_steps_are_achieved : MadeStepsAreAchieved
made_steps_are_achieved table steps given questions kept start middle end shown recovery others made = record {
  begun = runs_after_recoveries table steps start middle end shown recovery made.legal made.through.run;
  whole = made.through.whole;
  others = λ name other. made.others name other ∙ others name other;
}

pub stopped_steps_are_begun : StoppedStepsAreBegun
stopped_steps_are_begun table steps next given questions start middle end shown recovery stopped =
    runs_after_recoveries table (steps ++ next) start middle end shown recovery stopped.legal stopped.run
