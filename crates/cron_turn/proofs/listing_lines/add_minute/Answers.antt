use Rattle.cron_turn.proofs.LineLemmas.{minute_line}
use Rattle.cron_turn.proofs.listing_lines.add_minute.Goals as goal

pub returns : goal.returns
returns c =
    minute_line c.args.zone.now c.args.command.now c.args.text.now.items c.add_minute_line.new.text.items c.date_text.result c.args.minute
    c.in_ok-civil.civil c.in_ok-civil.ensures.value c.date_text.ensures
    c.in_ok-add_minute_line.ensures
