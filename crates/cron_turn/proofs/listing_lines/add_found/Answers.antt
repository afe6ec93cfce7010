use Rattle.std.proofs.Common.{◌∙◌, sym}
use Rattle.cron_turn.proofs.LineLemmas.{none_found, some_found}
use Rattle.cron_turn.proofs.listing_lines.add_found.Goals as goal

pub returns-then-is_none : goal.returns-then-is_none
returns-then-is_none c =
    none_found c.args.zone.now c.args.command.now c.args.minutes.now c.args.text.now.items c.add_minute_line.new.text.items
    (sym c.is_none.ensures ∙ c.if-is_none.true) c.in_ok-add_minute_line.ensures

pub returns : goal.returns
returns c =
    some_found c.args.zone.now c.args.command.now c.args.minutes.now c.args.text.now.items c.add_minutes.new.text.items
    (sym c.is_none.ensures ∙ c.if-is_none.false) c.in_ok-add_minutes.ensures
