use Rattle.std.proofs.Common.{List, subst, sym, ℕ, ◌≡◌}
use Rattle.host_calls.specs.ClockRange.{IsClockMinute}
use Rattle.std.specs.Prelude.{All}
use Rattle.cron_turn.proofs.LineLemmas.{entry_lines, minutes_in_range}
use Rattle.cron_turn.proofs.listing_lines.add_entry.Goals as goal

pub add_found-requires-clause-minutes : goal.add_found-requires-clause-minutes
add_found-requires-clause-minutes c =
    subst (All IsClockMinute) (sym c.deref.ensures.value)
    (minutes_in_range c.args.zone.now c.args.entry.now c.args.from c.args.count c.in_ok-minutes.minutes.items c.requires.from
    c.in_ok-minutes.ensures)

pub returns : goal.returns
returns c =
    entry_lines c.args.zone.now c.args.entry.now c.args.from c.args.count c.in_ok-minutes.minutes.items c.deref.result.now
    c.as_slice.result.now c.args.text.now.items c.add_found.new.text.items
    c.in_ok-minutes.ensures c.deref.ensures.value c.as_slice.ensures c.in_ok-add_found.ensures
