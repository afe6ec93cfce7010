-- An event that was acknowledged made all of its steps.
use Rattle.std.proofs.Common.{◌≡◌, Bool, true, false, subst}
use Rattle.headline.specs.Effects.{Effect, IsEffectOf, TakesEffect}
use Rattle.headline.specs.Laws.{IsEventWhole}
use Rattle.headline.proofs.StateLemmas as events
use Rattle.at_day.specs.declared.event.Event.{Event}
use Rattle.at_day.specs.declared.event.Event.TheVariants.{Command, Turn, Reboot}
use Rattle.at_day.specs.declared.events_report.EventReport.{EventReport}
use Rattle.at_day.specs.declared.events_report.EventReport.TheVariants as known
use Rattle.at_day.specs.EventEffects.{Happens}
use Rattle.at_day.specs.EventOutcomes.{AreEventSteps, IsEventEffect, is_acknowledged}
use Rattle.at_day.specs.Laws.{AcknowledgedEventsAreWhole}
use Rattle.at_day.specs.Machines.{Machine, spool_of}

-- by its effect, where this is one of its steps
whole_by : (event : Event) (report : EventReport) (effect : Effect) (old new : Machine) → is_acknowledged report ≡ true →
    IsEffectOf (is_acknowledged report) (AreEventSteps event report old) effect → TakesEffect effect (spool_of old) (spool_of new) →
    IsEventWhole (AreEventSteps event report old) (spool_of old) (spool_of new)
whole_by event report effect old new acknowledged is takes =
    events.acknowledged_events_are_whole (AreEventSteps event report old) effect (spool_of old) (spool_of new)
    (subst (λ (done : Bool). IsEffectOf done (AreEventSteps event report old) effect) acknowledged is) takes

whole_event : (event : Event) (report : EventReport) (effect : Effect) (old new : Machine) → Happens event report old new →
    is_acknowledged report ≡ true → IsEventEffect event report old effect → TakesEffect effect (spool_of old) (spool_of new) →
    IsEventWhole (AreEventSteps event report old) (spool_of old) (spool_of new)
whole_event (Command words caller input now) report effect old new happens acknowledged is takes =
    whole_by (Command words caller input now) report effect old new acknowledged is takes
whole_event (Turn now load) report effect old new happens acknowledged is takes =
    whole_by (Turn now load) report effect old new acknowledged is takes
whole_event (Reboot pick fuse) (known.Command status out err) effect old new happens acknowledged is takes = absurd happens
whole_event (Reboot pick fuse) (known.Turn turned) effect old new happens acknowledged is takes = absurd happens
whole_event (Reboot pick fuse) known.Rebooted effect old new happens acknowledged is takes =
    absurd (let impossible : false ≡ true = acknowledged in cc)

pub acknowledged_events_are_whole : AcknowledgedEventsAreWhole
acknowledged_events_are_whole old outcome done acknowledged =
    whole_event outcome.event outcome.report outcome.effect old outcome.left done.happens acknowledged done.by_its_steps done.moved
