use Rattle.std.proofs.Common.{All, take}
use Rattle.later_day.specs.LaterEventEffects.{IsLaterEvent}
use Rattle.later_day.proofs.may_come.are_later_events.Given as goal

-- the events so far may come
abbrev pub invariant-loop-event : goal.invariant-loop-event
invariant-loop-event l = All IsLaterEvent (take l.event-index l.events)
