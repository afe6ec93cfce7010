use Rattle.std.proofs.Common.{arith, FitsSigned, w64, to_z-of_z}
use Rattle.std.proofs.lemmas.Int.{ints}
use Rattle.std.proofs.lemmas.Result.{err_from_is_err_and}
use Rattle.jiff.proofs.Family.{epoch_day_range}
use Rattle.jiff.specs.Words.{epoch_day}
use Rattle.civil_minute.specs.Meant.{leaves}
use Rattle.civil_minute.proofs.MeantLemmas.{becomes_answer, becomes_outside}
use Rattle.civil_minute.proofs.minute.minute_on.Goals as goal

pub returns-in_err-date : goal.returns-in_err-date
returns-in_err-date c =
    let fault = err_from_is_err_and c.from_residual.result c.from_residual.ensures.1 in
    let err = c.in_err-date.ensures.err in
    rw (fault.1, fault.2, err.0) (leaves err.1)

pub returns-in_err-start : goal.returns-in_err-start
returns-in_err-start c =
    let fault = err_from_is_err_and c.from_residual-in_err-start.result c.from_residual-in_err-start.ensures.1 in
    let err = c.in_err-start.ensures.err in
    let date = c.in_ok-date.date in
    rw (fault.1, fault.2, err.0)
    (becomes_outside c.args.instant c.args.zone.now c.args.now c.args.date c.args.given c.args.later (epoch_day date) (epoch_day_range date)
    c.in_ok-date.ensures.ok err.1 err.2)

pub returns : goal.returns
returns c =
    let now : FitsSigned w64 c.args.now = c.ranges.now in
    let first : FitsSigned w64 c.in_ok-start.start = omega (arith, ints, c.in_ok-start.ensures.bound) in
    let added : FitsSigned w64 c.later_seconds.result = omega (arith, ints, c.later_seconds.ensures.bound) in
    let date = c.in_ok-date.date in
    becomes_answer c.args.instant c.args.zone.now c.args.now c.args.date c.args.given c.args.later (epoch_day date)
    c.in_ok-start.start c.later_seconds.result
    c.answer_at.result (epoch_day_range date) c.in_ok-date.ensures.ok (simp to_z-of_z at c.in_ok-start.ensures.ok)
    c.later_seconds.ensures.value
    (simp to_z-of_z at c.answer_at.ensures)
