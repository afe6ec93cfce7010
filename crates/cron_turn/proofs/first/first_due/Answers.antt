use Rattle.cron_turn.proofs.ScheduleLemmas.{idle_up_to}
use Rattle.cron_turn.proofs.first.first_due.Goals as goal

pub returns : goal.returns
returns c =
    idle_up_to c.args.zone.now c.args.entry.now c.args.from c.args.end c.loop-minute.minute c.loop-minute-test.false
    c.loop-minute.invariant.idle
