use Rattle.std.proofs.Common.{◌≡◌, take}
use Rattle.cron_session.specs.inside.Due.{due_commands}
use Rattle.cron_session.proofs.due.due_commands.Given as goal

abbrev pub invariant-loop-entry : goal.invariant-loop-entry
invariant-loop-entry l = l.due.items ≡ due_commands (take l.entry-index l.entries) l.civil
