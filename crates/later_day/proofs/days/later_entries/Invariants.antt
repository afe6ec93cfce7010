use Rattle.later_day.specs.LaterMachines.{first_later_machine, later_machine}
use Rattle.later_day.proofs.LaterLoop.{IsLaterSoFar}
use Rattle.later_day.proofs.days.later_entries.Given as goal

-- the events so far have outcomes
abbrev pub invariant-loop-event : goal.invariant-loop-event
invariant-loop-event l =
    IsLaterSoFar l.program l.events l.event-index l.entries.items (first_later_machine l.initial.host l.program)
    (later_machine l.host l.daemon l.post)
