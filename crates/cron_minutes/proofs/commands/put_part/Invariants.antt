use Rattle.std.proofs.Common.{◌≡◌, ◌++◌, length}
use Rattle.cron_minutes.specs.Commands.{pieces}
use Rattle.cron_minutes.specs.inside.Lines.{after_cut, first_part}
use Rattle.cron_minutes.proofs.commands.put_part.Given as goal

abbrev pub invariant-loop-piece : goal.invariant-loop-piece
invariant-loop-piece l =
    (l.text.items ++ first_part (pieces l.rest) ≡ l.initial.text.items ++ first_part (pieces l.command))
    × (after_cut (pieces l.rest) ≡ after_cut (pieces l.command))

abbrev pub decreases-loop-piece : goal.decreases-loop-piece
decreases-loop-piece l = length l.rest
