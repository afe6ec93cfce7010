use Rattle.cron_turn.proofs.ScheduleLemmas.{Found}
use Rattle.cron_turn.proofs.next.next_due.Given as goal

abbrev pub invariant-loop-found : goal.invariant-loop-found
invariant-loop-found l = Found l.zone l.entry l.from l.now l.end l._found l.minutes.items
