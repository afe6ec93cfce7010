use Rattle.std.proofs.Common.{◌-ℤ◌, arith, pos, refl}
use Rattle.cron_turn.proofs.DateLemmas.{dates_more}
use Rattle.cron_turn.proofs.dates.is_idle_day.Goals as goal

pub loop-date-preserved : goal.loop-date-preserved
loop-date-preserved c =
    dates_more c.args.entry.now c.args.day c.loop-date.date (pos c.loop-date.date -ℤ pos 2) c.loop-date.invariant refl
    (c.is_idle_date.ensures c.if-not-is_idle_date.false)

pub returns : goal.returns
returns c = λ is date late early. c.loop-date.invariant date late (omega (arith, early, c.loop-date-test.false))
