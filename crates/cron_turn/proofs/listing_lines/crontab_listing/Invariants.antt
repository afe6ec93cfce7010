use Rattle.std.proofs.Common.{take}
use Rattle.cron_turn.specs.Listing.{IsCronListing}
use Rattle.cron_turn.proofs.listing_lines.crontab_listing.Given as goal

abbrev pub invariant-loop-entry : goal.invariant-loop-entry
invariant-loop-entry l = IsCronListing l.zone l.from l.count (take l.entry-index l.entries) l.text.items
