-- The outcomes of the events of a day (own): what happened with each, what it did to the spool, and the machine that it left.
use Rattle.std.specs.Prelude.{◌≡◌, [], ◌∷◌, ℕ, ℤ, Bool, true, false, List, Option, Some, MatchBool, map}
use Rattle.at_words.specs.Requests.{request_of}
use Rattle.tool_output.specs.declared.caller.Caller.{Caller}
use Rattle.command_rules.specs.Checks.{of_output}
use Rattle.command_rules.specs.Found.{Finds, Found, is_submission}
use Rattle.command_rules.specs.Requested.{AreAskedSteps, OrNone}
use Rattle.host_calls.specs.declared.turn_end.TurnEnd.{TurnEnd}
use Rattle.host_calls.specs.declared.turn_end.TurnEnd.TheVariants.{Done, Busy, FileFault, Damaged, Memory}
use Rattle.spool_model.specs.declared.turn_step.TurnStep.{TurnStep}
use Rattle.daemon_turn.specs.StartOrder.{Turn as TurnOf, turn_of}
use Rattle.spool_model.specs.StepsOf.{steps_of_turn}
use Rattle.daemon_turn.specs.Turning.{AreFirstSteps, AreTurnSteps, IsStepsPrefix}
use Rattle.at_day.specs.declared.event.Event.{Event}
use Rattle.at_day.specs.declared.event.Event.TheVariants.{Command, Turn, Reboot}
use Rattle.at_day.specs.declared.events_report.EventReport.{EventReport}
use Rattle.at_day.specs.declared.events_report.EventReport.TheVariants as known
use Rattle.headline.specs.Effects.{TakesEffect, IsEffectOf, Effect, Passed, Untouched, Partial, Whole, Crashed}
use Rattle.host_calls.specs.declared.child.Ending.{Ending}
use Rattle.listing_text.specs.Cause.{is_done_cause}
use Rattle.memory_host.specs.Inputs.{given_contents}
use Rattle.spool_model.specs.declared.step.Step.{Step}
use Rattle.spool_model.specs.JobTable.{JobTable}
use Rattle.at_day.specs.EventEffects.{Happens, full_turn}
use Rattle.at_day.specs.Machines.{Machine, spool_of}

-- The steps of a command that is given at the second with the input, on the table. A refused one has none.
pub record AreCommandSteps (words : List (List ℕ)) (caller : Caller) (input : List ℕ) (now : ℤ) (table : JobTable)
    (steps : List Step) : Type 0 where
  pub found : Found
  pub finds : Finds true (request_of words) caller.zone (given_contents input (Some input)) of_output found
  pub clock : is_submission (request_of words) ≡ true → found.now ≡ now
  pub are : AreAskedSteps (request_of words) caller found table steps

-- all of its steps where it is done, else these or none
abbrev pub AreCommandStepsBy : Bool → List (List ℕ) → Caller → List ℕ → ℤ → JobTable → List Step → Type 0
AreCommandStepsBy acknowledged words caller input now table steps =
    MatchBool acknowledged (AreCommandSteps words caller input now table steps)
    (OrNone (AreCommandSteps words caller input now) table steps)

-- The steps of a turn on the table: those that it reports where it is done, else these, and the one that came next.
pub record AreStepsOfTurn (turn : TurnOf) (acknowledged : Bool) (reported : List TurnStep) (table : JobTable) (steps : List Step)
    : Type 0 where
  pub made : List TurnStep
  pub answers : List (Option Ending)
  pub flags : List Bool
  pub are : MatchBool acknowledged (AreTurnSteps turn table answers flags made) (AreFirstSteps turn table answers flags made)
  pub reports : MatchBool acknowledged (made ≡ reported) (IsStepsPrefix reported made)
  pub steps_are : steps ≡ steps_of_turn made

-- the turn was done
abbrev pub is_done_turn : TurnEnd → Bool
is_done_turn Done = true
is_done_turn Busy = false
is_done_turn FileFault = false
is_done_turn (Damaged damage) = false
is_done_turn Memory = false

-- the report acknowledges the event: the command or the turn was done
abbrev pub is_acknowledged : EventReport → Bool
is_acknowledged (known.Command status out err) = is_done_cause status.cause
is_acknowledged (known.Turn turned) = is_done_turn turned.end
is_acknowledged known.Rebooted = false

-- the steps of an event on a table, by its report
abbrev pub AreEventSteps : Event → EventReport → Machine → JobTable → List Step → Type 0
AreEventSteps (Command words caller input now) answer old table steps =
    AreCommandStepsBy (is_acknowledged answer) words caller input now table steps
AreEventSteps (Turn now load) (known.Turn turned) old table steps =
    AreStepsOfTurn (turn_of old.daemon (full_turn now load)) (is_done_turn turned.end) turned.steps table steps
AreEventSteps _ _ old table steps = ⊥

-- the move is that of a crash
abbrev pub IsCrashEffect : Effect → Type 0
IsCrashEffect (Crashed image) = Unit {0}
IsCrashEffect _ = ⊥

-- the move of an event is one of its steps, or the crash that it is
abbrev pub IsEventEffect : Event → EventReport → Machine → Effect → Type 0
IsEventEffect (Reboot pick fuse) answer old effect = IsCrashEffect effect
IsEventEffect (Command words caller input now) answer old effect =
    IsEffectOf (is_acknowledged answer) (AreEventSteps (Command words caller input now) answer old) effect
IsEventEffect (Turn now load) answer old effect =
    IsEffectOf (is_acknowledged answer) (AreEventSteps (Turn now load) answer old) effect

-- an event, what it reports, what it did to the spool, and the machine that it left
pub record EventOutcome : Type 0 where
  pub event : Event
  pub report : EventReport
  pub effect : Effect
  pub left : Machine

-- the outcome is one on the machine
pub record IsDoneOn (old : Machine) (outcome : EventOutcome) : Type 0 where
  pub happens : Happens outcome.event outcome.report old outcome.left
  pub by_its_steps : IsEventEffect outcome.event outcome.report old outcome.effect
  pub moved : TakesEffect outcome.effect (spool_of old) (spool_of outcome.left)

-- the outcomes are one after another, the first of them on this machine
abbrev pub AreDoneOn : Machine → List EventOutcome → Type 0
AreDoneOn old [] = Unit {0}
AreDoneOn old (outcome ∷ later) = IsDoneOn old outcome × AreDoneOn outcome.left later

-- the machine that the outcomes leave
abbrev pub machine_after : Machine → List EventOutcome → Machine
machine_after old [] = old
machine_after old (outcome ∷ later) = machine_after outcome.left later

-- the events of outcomes, their reports, and what they did to the spool
abbrev pub events_of : List EventOutcome → List Event
events_of outcomes = map (λ outcome. outcome.event) outcomes

abbrev pub reports_of : List EventOutcome → List EventReport
reports_of outcomes = map (λ outcome. outcome.report) outcomes

abbrev pub passed_events : List EventOutcome → List Passed
passed_events outcomes = map (λ outcome. record { effect = outcome.effect; left = spool_of outcome.left }) outcomes
