use Rattle.std.proofs.Common.{◌≡◌, ◌∙◌, ◌+◌, ◌%◌, ◌+ℤ◌, nat_le, ℕ, ℤ, pos, ap, arith, FitsSigned, w64, to_z-of_z}
use Rattle.std.proofs.lemmas.Int.{ints}
use Rattle.std.proofs.lemmas.Result.{IfOk-at_ok}
use Rattle.jiff.proofs.Family.{epoch_day_range}
use Rattle.jiff.specs.Words.{epoch_day}
use Rattle.jiff_core.specs.Calendar.{weekday_number}
use Rattle.civil_minute.proofs.MeantLemmas.{first_awaited}
use Rattle.civil_minute.proofs.picked.first_awaited.Goals as goal

pub unwrap-requires : goal.unwrap-requires
unwrap-requires c =
    let today = epoch_day_range c.args.local.date in
    c.checked_add.ensures.succeeds.1 (omega (arith, ints), omega (arith, ints))

pub returns : goal.returns
returns c =
    let weekday : c.index.result ≡ weekday_number (epoch_day c.args.local.date) = c.index.ensures.value ∙ c.weekday.ensures in
    let sum = IfOk-at_ok _ c.unwrap.ensures c.checked_add.ensures.value in
    let few : FitsSigned w64 c.from.result = omega (arith, ints) in
    let moved = simp to_z-of_z at sum in
    let k = c.days_ahead-ahead.ensures.value in
    first_awaited c.args.weekday c.args.given (epoch_day c.args.local.date) _ ((c.index.result + 1) % 7) _
    (epoch_day c.unwrap.result) c.requires.weekday
    (ap (λ day. (day + 1) % 7) weekday) (ap (λ (time : ℕ). nat_le c.args.given time) c.to_second.ensures.value) (moved
    ∙ ap (λ (days : ℤ). epoch_day c.args.local.date +ℤ days) (c.from.ensures ∙ ap pos k))
