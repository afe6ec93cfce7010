use Rattle.std.proofs.Common.{◌<◌, ◌^◌, false, refl, arith}
use Rattle.std.proofs.lemmas.Bool.{both_ways}
use Rattle.std.proofs.lemmas.Int.{to_z_pos}
use Rattle.civil_minute.proofs.LaterLemmas.{leaves_calendar, too_many_months}
use Rattle.civil_minute.proofs.later.months_later.Goals as goal

pub returns-then-months-gt300000-clause-err : goal.returns-then-months-gt300000-clause-err
returns-then-months-gt300000-clause-err c =
    (refl, leaves_calendar c.args.date c.args.months (too_many_months c.args.date c.args.months c.if-months-gt300000.true))

pub returns-in-Err-clause-err : goal.returns-in-Err-clause-err
returns-in-Err-clause-err c =
    let few : c.args.months < 2 ^ 31 = omega arith in
    let fails = simp to_z_pos at c.in-Err.ensures.succeeds in
    (refl, leaves_calendar c.args.date c.args.months (λ shifts. both_ways false refl (fails.1 shifts)))
