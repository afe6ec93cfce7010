use Rattle.std.proofs.Common.{get_or, refl}
use Rattle.cron_turn.proofs.LineLemmas.{lines_more, no_lines}
use Rattle.cron_turn.proofs.listing_lines.add_minutes.Goals as goal

pub loop-minute-init : goal.loop-minute-init
loop-minute-init c = no_lines c.args.zone.now c.args.command.now c.args.text.now.items

pub loop-minute-preserved : goal.loop-minute-preserved
loop-minute-preserved c =
    lines_more c.args.zone.now c.args.command.now c.args.text.now.items c.loop-minute.text.items c.add_minute.new.text.items
    c.args.minutes.now c.loop-minute.minute-index (get_or c.args.minutes.now c.loop-minute.minute-index 0)
    c.loop-minute-test.true refl c.loop-minute.invariant c.in_ok-add_minute.ensures
