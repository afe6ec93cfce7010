use Rattle.std.proofs.Common.{sym, subst, arith, FitsSigned, w16, w64, to_z-of_z}
use Rattle.std.proofs.lemmas.Int.{ints}
use Rattle.std.proofs.lemmas.Result.{err_from_is_err_and}
use Rattle.civil_minute.specs.inside.Reckoning.{IsLocalTime}
use Rattle.civil_minute.proofs.CivilLemmas.{local_time-same}
use Rattle.civil_minute.proofs.OnlyLemmas.{one_touch_meaning}
use Rattle.civil_minute.proofs.MeantLemmas.{touch_means_in_range, touch_means_named, touch_means_no_day}
use Rattle.civil_minute.proofs.minute.minute_of_touch.Goals as goal

pub returns-in_err-date-clause-meant : goal.returns-in_err-date-clause-meant
returns-in_err-date-clause-meant c =
    let at = local_time-same c.args.now (to_z-of_z c.ranges.now) c.local_at.ensures in
    let year : FitsSigned w16 c.year_of_touch.result = omega (arith, ints) in
    let fault = err_from_is_err_and c.from_residual.result c.from_residual.ensures.1 in
    let err = simp to_z-of_z at c.in_err-date.ensures.err in
    rw (fault.1, fault.2, err.0)
    (touch_means_no_day c.args.time.now c.args.now c.args.zone.now c.to_plain.result c.year_of_touch.result c.year_of_touch.ensures
    (subst (IsLocalTime c.args.zone.now c.args.now) (sym c.to_plain.ensures) at) err.1)

pub returns-clause-meant : goal.returns-clause-meant
returns-clause-meant c =
    let now : FitsSigned w64 c.args.now = c.ranges.now in
    let year : FitsSigned w16 c.year_of_touch.result = omega (arith, ints) in
    let at = local_time-same c.args.now (to_z-of_z c.ranges.now) c.local_at.ensures in
    touch_means_named c.args.time.now c.args.now c.args.zone.now c.to_plain.result c.year_of_touch.result c.in_ok-date.date
    _ c.minute_on.result c.year_of_touch.ensures
    (subst (IsLocalTime c.args.zone.now c.args.now) (sym c.to_plain.ensures) at) (simp to_z-of_z at c.in_ok-date.ensures.ok)
    (omega arith) (simp to_z-of_z at c.minute_on.ensures)

pub returns-in_err-date-clause-only : goal.returns-in_err-date-clause-only
returns-in_err-date-clause-only c = λ other means.
    one_touch_meaning c.args.time.now c.args.now c.args.zone.now other c.from_residual.result means (returns-in_err-date-clause-meant c)

pub returns-clause-only : goal.returns-clause-only
returns-clause-only c =
    λ other means. one_touch_meaning c.args.time.now c.args.now c.args.zone.now other c.minute_on.result means (returns-clause-meant c)

pub returns-clause-in_range : goal.returns-clause-in_range
returns-clause-in_range c = touch_means_in_range c.args.time.now c.args.now c.args.zone.now c.minute_on.result (returns-clause-meant c)
