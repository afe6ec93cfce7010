use Rattle.std.proofs.Common.{[], List, subst, sym, ℕ}
use Rattle.cron_turn.specs.Listing.{IsCronListing, no_entry}
use Rattle.cron_turn.proofs.LineLemmas.{entries_more}
use Rattle.cron_turn.proofs.listing_lines.crontab_listing.Goals as goal

pub loop-entry-init : goal.loop-entry-init
loop-entry-init c =
    subst (λ (text : List ℕ). IsCronListing c.args.zone.now c.args.from c.args.count [] text) (sym c.new-text.ensures.items) no_entry

pub loop-entry-preserved : goal.loop-entry-preserved
loop-entry-preserved c =
    entries_more c.args.zone.now c.args.from c.args.count c.loop-entry.text.items c.add_entry.new.text.items c.args.entries.now
    c.loop-entry.entry-index c.entry-item.result
    c.loop-entry-test.true c.entry-item.is c.loop-entry.invariant c.in_ok-add_entry.ensures
