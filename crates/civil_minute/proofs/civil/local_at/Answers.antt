use Rattle.std.proofs.Common.{◌≡◌, ◌∙◌, ◌*ℤ◌, pos, arith}
use Rattle.std.proofs.lemmas.Int.{ints}
use Rattle.civil_minute.proofs.CivilLemmas.{local_time}
use Rattle.civil_minute.proofs.civil.local_at.Goals as goal

pub returns : goal.returns
returns c =
    let instant : c.constant.result.nanosecond ≡ c.args.second *ℤ pos 1_000_000_000 = omega (arith, ints) in
    let rules = c.time_zone.ensures in
    local_time c.args.zone.now c.args.second c.to_datetime.result (c.to_datetime.ensures ∙ rw (instant, rules))
