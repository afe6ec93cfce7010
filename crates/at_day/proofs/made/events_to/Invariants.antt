use Rattle.std.proofs.Common.{◌≡◌}
use Rattle.at_day.specs.Made.{made_events}
use Rattle.at_day.proofs.made.events_to.Given as goal

-- the events so far
abbrev pub invariant-loop-number : goal.invariant-loop-number
invariant-loop-number l = l.events ≡ made_events l.number
