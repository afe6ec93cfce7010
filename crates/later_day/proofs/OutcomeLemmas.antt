-- An event of a day starts no job, or accepts none.
use Rattle.std.proofs.Common.{◌≡◌, ◌⊎◌, ◌++◌, ℕ, ℤ, Bool, true, false, List, [], ◌∷◌, sym, subst, inl, inr, map, Result, Ok, Err, Option}
use Rattle.at_words.specs.declared.tool_request.ToolRequest.TheVariants as request
use Rattle.at_words.specs.Requests.{request_of}
use Rattle.tool_output.specs.declared.caller.Caller.{Caller}
use Rattle.command_rules.specs.Found.{Asked, Found}
use Rattle.command_rules.specs.Requested.{forget_steps, removes, steps_asked}
use Rattle.spool_model.specs.declared.step.Step.{Step}
use Rattle.spool_model.specs.Lists.{surplus}
use Rattle.spool_model.specs.JobTable.{JobTable}
use Rattle.spool_model.specs.Steps.{after_steps}
use Rattle.step_runs.specs.Hands.{StartNothing}
use Rattle.spool_model.specs.declared.turn_step.TurnStep.{TurnStep}
use Rattle.spool_model.specs.declared.turn_step.TurnStep.TheVariants.{HandedOver, Ended, Interrupted, Forgotten}
use Rattle.spool_model.specs.StepsOf.{steps_of_turn}
use Rattle.at_day.specs.declared.event.Event.{Event}
use Rattle.at_day.specs.declared.event.Event.TheVariants.{Command, Turn, Reboot}
use Rattle.at_day.specs.declared.events_report.EventReport.{EventReport}
use Rattle.at_day.specs.declared.events_report.EventReport.TheVariants as known
use Rattle.headline.specs.Effects.{Crashed, Effect, IsEffectOf, Partial, Untouched, Whole, steps_begun}
use Rattle.headline.proofs.ShownEffectLemmas.{effects_are_shown}
use Rattle.later_day.specs.LaterEffects.{AcceptNothing, DoOneThing}
use Rattle.later_day.proofs.EffectRestLemmas.{effects_leave_the_rest}
use Rattle.at_day.specs.EventOutcomes.{AreCommandSteps, AreCommandStepsBy, AreEventSteps, AreStepsOfTurn, EventOutcome, IsCrashEffect, IsDoneOn, IsEventEffect, is_acknowledged}
use Rattle.at_day.specs.Machines.{Machine, spool_of}
use Rattle.later_day.specs.Laws.{DayOutcomesPass}

-- A command starts nothing.

forgets_start_nothing : (numbers : List ℕ) → StartNothing (forget_steps numbers)
forgets_start_nothing [] = tt
forgets_start_nothing (number ∷ later) = forgets_start_nothing later

removal_starts_nothing : (numbers forgotten : List ℕ) → StartNothing (removes numbers ++ forget_steps forgotten)
removal_starts_nothing [] forgotten = forgets_start_nothing forgotten
removal_starts_nothing (number ∷ later) forgotten = removal_starts_nothing later forgotten

asked_start_nothing : (asked : Asked) (caller : Caller) (found : Found) (table : JobTable) →
    StartNothing (steps_asked asked caller found table)
asked_start_nothing (Ok (request.Submit queue mail file when)) caller found table = tt
asked_start_nothing (Ok (request.Remove numbers)) caller found table =
    removal_starts_nothing numbers (surplus (after_steps table (removes numbers)))
asked_start_nothing (Ok (request.List filter)) caller found table = tt
asked_start_nothing (Ok (request.Show numbers)) caller found table = tt
asked_start_nothing (Ok (request.Daemon limit interval once turns)) caller found table = tt
asked_start_nothing (Ok (request.Make count)) caller found table = tt
asked_start_nothing (Err fault) caller found table = tt

module _ (words : List (List ℕ)) (caller : Caller) (input : List ℕ) (now : ℤ) where
  command_starts_nothing : (table : JobTable) (steps : List Step) → AreCommandSteps words caller input now table steps →
      StartNothing steps
  command_starts_nothing table steps are =
      subst StartNothing (sym are.are.steps_are) (asked_start_nothing (request_of words) caller are.found table)

  steps_start_nothing : (acknowledged : Bool) (table : JobTable) (steps : List Step) →
      AreCommandStepsBy acknowledged words caller input now table steps → StartNothing steps
  steps_start_nothing true table steps are = command_starts_nothing table steps are
  steps_start_nothing false table steps are = elim are [
    | inl some ↦ command_starts_nothing table steps some
    | inr none ↦ subst StartNothing (sym none) tt
  ]

-- A turn accepts nothing.

turn_accepts_nothing : (made : List TurnStep) → AcceptNothing (steps_of_turn made)
turn_accepts_nothing [] = tt
turn_accepts_nothing (HandedOver number second ∷ later) = turn_accepts_nothing later
turn_accepts_nothing (Ended number ending ∷ later) = turn_accepts_nothing later
turn_accepts_nothing (Interrupted number ∷ later) = turn_accepts_nothing later
turn_accepts_nothing (Forgotten number ∷ later) = turn_accepts_nothing later

-- Both.

event_does_one_thing : (event : Event) (report : EventReport) (old : Machine) (table : JobTable) (steps : List Step) →
    AreEventSteps event report old table steps → DoOneThing steps
event_does_one_thing (Command words caller input now) report old table steps are =
    inl (steps_start_nothing words caller input now (is_acknowledged report) table steps are)
event_does_one_thing (Turn now load) (known.Turn turned) old table steps are =
    inr (subst AcceptNothing (sym are.steps_are) (turn_accepts_nothing are.made))
event_does_one_thing (Turn now load) (known.Command status out err) old table steps are = absurd are
event_does_one_thing (Turn now load) known.Rebooted old table steps are = absurd are
event_does_one_thing (Reboot pick fuse) report old table steps are = absurd are

-- an effect by steps that do one thing does one thing
effect_does_one_thing : (acknowledged : Bool) (AreSteps : JobTable → List Step → Type 0) (effect : Effect) →
    ((table : JobTable) (steps : List Step) → AreSteps table steps → DoOneThing steps) →
    IsEffectOf acknowledged AreSteps effect → DoOneThing (steps_begun effect)
effect_does_one_thing acknowledged AreSteps Untouched each is = inl tt
effect_does_one_thing acknowledged AreSteps (Partial table steps) each is = each table steps is.1
effect_does_one_thing acknowledged AreSteps (Whole table steps) each is = each table steps is
effect_does_one_thing acknowledged AreSteps (Crashed image) each is = absurd is

crash_does_one_thing : (effect : Effect) → IsCrashEffect effect → DoOneThing (steps_begun effect)
crash_does_one_thing (Crashed image) is = inl tt
crash_does_one_thing _ is = absurd is

outcome_does_one_thing : (event : Event) (report : EventReport) (old : Machine) (effect : Effect) →
    IsEventEffect event report old effect → DoOneThing (steps_begun effect)
outcome_does_one_thing (Command words caller input now) report old effect is =
    effect_does_one_thing (is_acknowledged report) (AreEventSteps (Command words caller input now) report old) effect
    (event_does_one_thing (Command words caller input now) report old) is
outcome_does_one_thing (Turn now load) report old effect is =
    effect_does_one_thing (is_acknowledged report) (AreEventSteps (Turn now load) report old) effect
    (event_does_one_thing (Turn now load) report old) is
outcome_does_one_thing (Reboot pick fuse) report old effect is = crash_does_one_thing effect is

pub day_outcomes_pass : DayOutcomesPass
day_outcomes_pass old outcome done =
    let one : DoOneThing (steps_begun outcome.effect) =
    outcome_does_one_thing outcome.event outcome.report old outcome.effect done.by_its_steps in
    record {
      later = (one, effects_are_shown outcome.effect (spool_of old) (spool_of outcome.left) done.moved);
      rest = effects_leave_the_rest outcome.effect (spool_of old) (spool_of outcome.left) one done.moved;
    }
