use Rattle.cron_session.proofs.DueLemmas.{due_more}
use Rattle.cron_session.proofs.due.due_commands.Goals as goal

pub loop-entry-preserved : goal.loop-entry-preserved
loop-entry-preserved c =
    due_more c.args.entries.now c.args.civil.now c.loop-entry.entry-index c.entry-item.result c.loop-entry.due.items c.put_due.new.due.items
    c.loop-entry-test.true c.entry-item.is c.loop-entry.invariant c.in_ok-put_due.ensures
