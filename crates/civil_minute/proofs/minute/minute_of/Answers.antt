use Rattle.std.proofs.Common.{sym, subst, FitsSigned, w64, to_z-of_z}
use Rattle.std.proofs.lemmas.Result.{err_from_is_err_and}
use Rattle.civil_minute.specs.inside.Reckoning.{IsLocalTime}
use Rattle.civil_minute.proofs.CivilLemmas.{local_time-same}
use Rattle.civil_minute.proofs.OnlyLemmas.{one_meaning}
use Rattle.civil_minute.proofs.MeantLemmas.{means_in_range, means_no_day, means_picked, today_bound}
use Rattle.civil_minute.proofs.minute.minute_of.Goals as goal

pub picked_date-requires-clause-local : goal.picked_date-requires-clause-local
picked_date-requires-clause-local c =
    let at = local_time-same c.args.now (to_z-of_z c.ranges.now) c.local_at.ensures in
    rw c.to_plain-local.ensures (today_bound c.zone_of_clock-zone.result c.args.now c.local_at.result at c.requires.now.high)

pub returns-in_err-date-clause-meant : goal.returns-in_err-date-clause-meant
returns-in_err-date-clause-meant c =
    let at = local_time-same c.args.now (to_z-of_z c.ranges.now) c.local_at.ensures in
    let fault = err_from_is_err_and c.from_residual.result c.from_residual.ensures.1 in
    let err = c.in_err-date.ensures.err in
    rw (fault.1, fault.2, err.0)
    (means_no_day c.args.spec.now c.args.now c.args.zone.now c.zone_of_clock-zone.result c.to_plain-local.result
    c.zone_of_clock-zone.ensures
    (subst (IsLocalTime c.zone_of_clock-zone.result c.args.now) (sym c.to_plain-local.ensures) at) err.1)

pub returns-clause-meant : goal.returns-clause-meant
returns-clause-meant c =
    let now : FitsSigned w64 c.args.now = c.ranges.now in
    let at = local_time-same c.args.now (to_z-of_z c.ranges.now) c.local_at.ensures in
    means_picked c.args.spec.now c.args.now c.args.zone.now c.zone_of_clock-zone.result c.to_plain-local.result c.in_ok-date.date
    c.second_of_clock-given.result c.keeps_instant-instant.result c.minute_on.result c.zone_of_clock-zone.ensures
    (subst (IsLocalTime c.zone_of_clock-zone.result c.args.now) (sym c.to_plain-local.ensures) at) c.second_of_clock-given.ensures.value
    c.keeps_instant-instant.ensures c.in_ok-date.ensures.ok (simp to_z-of_z at c.minute_on.ensures)

pub returns-in_err-date-clause-only : goal.returns-in_err-date-clause-only
returns-in_err-date-clause-only c = λ other means.
    one_meaning c.args.spec.now c.args.now c.args.zone.now other c.from_residual.result means (returns-in_err-date-clause-meant c)

pub returns-clause-only : goal.returns-clause-only
returns-clause-only c =
    λ other means. one_meaning c.args.spec.now c.args.now c.args.zone.now other c.minute_on.result means (returns-clause-meant c)

pub returns-clause-in_range : goal.returns-clause-in_range
returns-clause-in_range c = means_in_range c.args.spec.now c.args.now c.args.zone.now c.minute_on.result (returns-clause-meant c)
