use Rattle.std.proofs.Common.{◌≤◌, ◌+◌, ◌-◌}
use Rattle.cron_turn.specs.Schedule.{IsNotDueWithin}
use Rattle.cron_turn.proofs.first.first_due.Given as goal

abbrev pub invariant-loop-minute : goal.invariant-loop-minute
invariant-loop-minute l = record {
  late : l.from ≤ l.minute;
  idle : IsNotDueWithin l.zone l.entry l.from l.minute;
}

abbrev pub decreases-loop-minute : goal.decreases-loop-minute
decreases-loop-minute l = l.end - l.minute
