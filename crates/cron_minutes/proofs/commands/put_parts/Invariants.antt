use Rattle.std.proofs.Common.{◌≡◌, ◌++◌, length}
use Rattle.cron_minutes.specs.Commands.{pieces}
use Rattle.cron_minutes.specs.inside.Lines.{input}
use Rattle.cron_minutes.proofs.commands.put_parts.Given as goal

abbrev pub invariant-loop-piece : goal.invariant-loop-piece
invariant-loop-piece l = l.text.items ++ input (pieces l.rest) ≡ l.initial.text.items ++ input (pieces l.command)

abbrev pub decreases-loop-piece : goal.decreases-loop-piece
decreases-loop-piece l = length l.rest
