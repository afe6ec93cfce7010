use Rattle.cron_turn.specs.inside.Dates.{AreIdleDates}
use Rattle.cron_turn.proofs.dates.is_idle_day.Given as goal

abbrev pub invariant-loop-date : goal.invariant-loop-date
invariant-loop-date l = AreIdleDates l.entry l.day l.date
