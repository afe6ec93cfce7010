use Rattle.at_day.proofs.EventsMadeLemmas.{events_more, no_events}
use Rattle.at_day.proofs.made.events_to.Goals as goal

pub loop-number-init : goal.loop-number-init
loop-number-init c = no_events _ c.new-events.ensures

pub loop-number-preserved : goal.loop-number-preserved
loop-number-preserved c =
    events_more _ _ _ c.loop-number.number c.loop-number.invariant c.in_ok-push.ensures.ok c.in_ok-made_event.ensures
