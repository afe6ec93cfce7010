-- What an event does to the spool, as a move of its steps.
use Rattle.std.proofs.Common.{◌≡◌, ◌++◌, [], ◌∷◌, ℕ, ℤ, Bool, false, List, sym, ap, subst, refl, inl, inr}
use Rattle.host_calls.specs.declared.turn_end.TurnEnd.{TurnEnd}
use Rattle.host_calls.specs.declared.turn_end.TurnEnd.TheVariants.{Done, Busy, FileFault, Damaged, Memory}
use Rattle.spool_model.specs.declared.turn_step.TurnStep.{TurnStep}
use Rattle.spool_model.specs.declared.turn_step.TurnStep.TheVariants.{HandedOver, Ended, Interrupted, Forgotten}
use Rattle.daemon_turn.specs.TurnOutcome.{DaemonAt, IsTurnStopped, TurnLeaves}
use Rattle.daemon_turn.specs.StartOrder.{Turn as TurnOf, turn_of}
use Rattle.spool_model.specs.StepsOf.{steps_of_turn}
use Rattle.at_day.specs.declared.event.Event.{Event}
use Rattle.at_day.specs.declared.event.Event.TheVariants.{Command, Turn, Reboot}
use Rattle.at_day.specs.declared.events_report.EventReport.{EventReport}
use Rattle.at_day.specs.declared.events_report.EventReport.TheVariants as known
use Rattle.headline.specs.Effects.{ComesUpWith, TakesEffect, IsEffectOf, Effect, Untouched, Partial, Whole, Crashed}
use Rattle.host_calls.specs.Directory.{Files, IsImage}
use Rattle.host_calls.specs.World.{Moment, World, reading}
use Rattle.tool_output.specs.declared.caller.Caller.{Caller}
use Rattle.step_runs.specs.Made.{flags_of}
use Rattle.listing_text.specs.Cause.{is_done_cause}
use Rattle.listing_text.specs.declared.status.Status.{Status}
use Rattle.memory_host.specs.declared.memory_host.MemoryHost.{MemoryHost}
use Rattle.memory_host.specs.Host.{after_reboot, memory_world}
use Rattle.spool_model.specs.Steps.{FollowDraws}
use Rattle.at_day.specs.EventOutcomes.{AreStepsOfTurn, IsEventEffect, is_done_turn}
use Rattle.at_day.specs.GivenCommand.{IsGiven}
use Rattle.at_day.specs.EventEffects.{Happens, full_turn}
use Rattle.at_day.specs.Machines.{Machine, daemon_at, spool_of}
use Rattle.at_day.proofs.CommandEffects.{EffectsBy, effect_by}

-- no step of a turn draws or accepts a number
follow_turn : (steps : List TurnStep) → FollowDraws false (steps_of_turn steps)
follow_turn [] = tt
follow_turn (HandedOver number second ∷ later) = follow_turn later
follow_turn (Ended number ending ∷ later) = follow_turn later
follow_turn (Interrupted number ∷ later) = follow_turn later
follow_turn (Forgotten number ∷ later) = follow_turn later

-- a move of a turn, by whether it was done
abbrev TurnEffects : TurnOf → Bool → List TurnStep → World → World → Type 0
TurnEffects turn acknowledged reported old new =
    (effect : Effect) × IsEffectOf acknowledged (AreStepsOfTurn turn acknowledged reported) effect × TakesEffect effect old new

stopped_effect : (turn : TurnOf) (steps : List TurnStep) (old new : DaemonAt) → IsTurnStopped turn steps old new →
    TurnEffects turn false steps old.world new.world
stopped_effect turn steps old new stopped = (
  Partial stopped.table (steps_of_turn (steps ++ stopped.next)),
  (
    refl,
    record {
      made = steps ++ stopped.next;
      answers = stopped.answers;
      flags = flags_of stopped.given;
      are = stopped.first;
      reports = (stopped.next, refl);
      steps_are = refl;
    },
  ),
  (follow_turn (steps ++ stopped.next), stopped.begun),
)

turn_effect : (turn : TurnOf) (steps : List TurnStep) (old new : DaemonAt) (end : TurnEnd) → TurnLeaves turn steps old new end →
    TurnEffects turn (is_done_turn end) steps old.world new.world
turn_effect turn steps old new Done whole = (
  Whole whole.table (steps_of_turn steps),
  record { made = steps; answers = whole.answers; flags = flags_of whole.given; are = whole.are; reports = refl; steps_are = refl },
  (follow_turn steps, whole.achieved),
)
turn_effect turn steps old new Busy idle = (Untouched, refl, idle.0.unbegun)
turn_effect turn steps old new FileFault (inl idle) = (Untouched, refl, idle.unbegun)
turn_effect turn steps old new FileFault (inr stopped) = stopped_effect turn steps old new stopped
turn_effect turn steps old new (Damaged damage) idle = (Untouched, refl, idle.0.unbegun)
turn_effect turn steps old new Memory (inl idle) = (Untouched, refl, idle.unbegun)
turn_effect turn steps old new Memory (inr stopped) = stopped_effect turn steps old new stopped

-- a machine that is up again has the image that the crash left
comes_up : (pick : ℕ) (old new : World) → new ≡ after_reboot pick old → IsImage old.now.directory (reading new) →
    ((image : Files) → IsImage new.now.directory image → image ≡ reading new) → ComesUpWith (reading new) old new
comes_up pick old new is was only =
    let handed : new.now.handed ≡ old.now.handed = ap (λ (world : World). world.now.handed) is in
    let before : new.before ≡ old.now ∷ old.before = ap (λ (world : World). world.before) is in
    record {
      was = was;
      only = only;
      handed = handed;
      leaves = record {
        more = new.now ∷ [];
        run = ap (λ (moments : List Moment). new.now ∷ moments) before;
        each = ((λ image image_is. (subst (IsImage old.now.directory) (sym (only image image_is)) was, handed)), tt);
      };
    }

given_effects : (words : List (List ℕ)) (caller : Caller) (input : List ℕ) (now : ℤ) (status : Status) (out err : List ℕ)
    (old new : MemoryHost) → IsGiven words caller input now status out err old new →
    EffectsBy (is_done_cause status.cause) words caller input now (memory_world old) (memory_world new)
given_effects words caller input now status out err old new given =
    effect_by words caller input now (memory_world old) (memory_world new) given.ends.found given.ends.reached given.ends.finds
    given.clock (given.ends.apart refl refl) status.cause given.ends.reach given.no_output_fault (given.ends.spool refl refl)

-- a move of an event
abbrev pub EventEffects : Event → EventReport → Machine → Machine → Type 0
EventEffects event answer old new = (effect : Effect) × IsEventEffect event answer old effect
    × TakesEffect effect (spool_of old) (spool_of new)

pub happens_takes_effect : (event : Event) (answer : EventReport) (old new : Machine) → Happens event answer old new →
    EventEffects event answer old new
happens_takes_effect (Command words caller input now) (known.Command status out err) old new commanded =
    given_effects words caller input now status out err old.host new.host commanded.host
happens_takes_effect (Turn now load) (known.Turn turned) old new turns =
    turn_effect (turn_of old.daemon (full_turn now load)) turned.steps (daemon_at old) (daemon_at new) turned.end (turns.leaves refl refl)
happens_takes_effect (Reboot pick fuse) known.Rebooted old new up =
    (Crashed (reading (spool_of new)), tt, comes_up pick (spool_of old) (spool_of new) up.host.world up.host.image up.host.only)
happens_takes_effect (Command words caller input now) (known.Turn turned) old new happens = absurd happens
happens_takes_effect (Command words caller input now) known.Rebooted old new happens = absurd happens
happens_takes_effect (Turn now load) (known.Command status out err) old new happens = absurd happens
happens_takes_effect (Turn now load) known.Rebooted old new happens = absurd happens
happens_takes_effect (Reboot pick fuse) (known.Command status out err) old new happens = absurd happens
happens_takes_effect (Reboot pick fuse) (known.Turn turned) old new happens = absurd happens
