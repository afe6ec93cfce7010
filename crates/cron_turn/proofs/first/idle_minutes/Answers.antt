use Rattle.std.proofs.Common.{◌∙◌, ◌/◌, arith, sym}
use Rattle.cron_turn.proofs.DateLemmas.{idle_day, idle_minute}
use Rattle.cron_turn.proofs.first.idle_minutes.Goals as goal

pub returns-then-is_idle_day-clause-idle : goal.returns-then-is_idle_day-clause-idle
returns-then-is_idle_day-clause-idle c =
    idle_day c.args.zone.now c.args.entry.now (c.args.minute / 1440) c.args.minute (c.is_idle_day.ensures c.if-is_idle_day.true)
    (omega (arith, c.if-minute-eq0.true))

pub returns-else-matches-clause-idle : goal.returns-else-matches-clause-idle
returns-else-matches-clause-idle c =
    idle_minute c.args.zone.now c.args.entry.now c.args.minute c.in_ok-civil.civil c.in_ok-civil.ensures.value
    (sym c.matches.ensures ∙ c.if-matches.false)
