use Rattle.std.proofs.Common.{◌≡◌, ◌∙◌, ◌-ℤ◌, FitsSigned, ℤ, ap, arith, of_z, pos, sym, to_z, w64}
use Rattle.std.proofs.lemmas.Int.{ints, to_z-of_z}
use Rattle.jiff_core.specs.Date.{epoch_day}
use Rattle.cron_turn.proofs.DateLemmas.{idle_date, not_true}
use Rattle.cron_turn.proofs.dates.is_idle_date.Goals as goal

pub returns-in-Ok : goal.returns-in-Ok
returns-in-Ok c = λ is.
    let fits : FitsSigned w64 c.from.result = omega (arith, ints) in
    let few : FitsSigned w64 (c.from.result -ℤ pos 2) = omega (arith, ints) in
    let day : epoch_day c.in-Ok.date ≡ c.from.result -ℤ pos 2 =
    c.in-Ok.ensures.value ∙ ap (λ (number : ℤ). to_z w64 (of_z w64 (number -ℤ pos 2))) (to_z-of_z w64 c.from.result fits)
    ∙ to_z-of_z w64 (c.from.result -ℤ pos 2) few in
    idle_date c.args.entry.now c.in-Ok.date (pos c.args.date -ℤ pos 2) c.midnight.result (day
    ∙ ap (λ (number : ℤ). number -ℤ pos 2) c.from.ensures) c.midnight.ensures
    (sym c.is_date_due.ensures ∙ not_true c.is_date_due.result is)
