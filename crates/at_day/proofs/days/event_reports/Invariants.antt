use Rattle.at_day.specs.Days.{first_machine}
use Rattle.at_day.specs.Machines.{machine}
use Rattle.at_day.proofs.OutcomeLemmas.{IsSoFar}
use Rattle.at_day.proofs.days.event_reports.Given as goal

-- the events so far have outcomes
abbrev pub invariant-loop-event : goal.invariant-loop-event
invariant-loop-event l = IsSoFar l.events l.event-index l.reports.items (first_machine l.initial.host) (machine l.host l.daemon)
