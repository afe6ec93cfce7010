use Rattle.std.proofs.Common.{take}
use Rattle.cron_turn.specs.Listing.{AreMinuteLines}
use Rattle.cron_turn.specs.inside.AddedLines.{Adds}
use Rattle.cron_turn.proofs.listing_lines.add_minutes.Given as goal

abbrev pub invariant-loop-minute : goal.invariant-loop-minute
invariant-loop-minute l = Adds (AreMinuteLines l.zone l.command (take l.minute-index l.minutes)) l.fn.text.items l.text.items
