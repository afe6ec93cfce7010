use Rattle.std.proofs.Common.{◌≡◌, ◌∙◌, false, refl, arith, FitsSigned, w64, to_z-of_z}
use Rattle.std.proofs.lemmas.Bool.{both_ways}
use Rattle.std.proofs.lemmas.Int.{ints}
use Rattle.jiff.specs.Types.{DateTime}
use Rattle.civil_minute.specs.Zone.{rules_of}
use Rattle.civil_minute.proofs.LaterLemmas.{instant_found, instant_outside}
use Rattle.civil_minute.proofs.later.instant_of.Goals as goal

pub returns-in-Ok-clause-ok : goal.returns-in-Ok-clause-ok
returns-in-Ok-clause-ok c =
    let rules : c.to_plain.result ≡ rules_of c.args.zone.now = c.to_plain.ensures ∙ c.time_zone.ensures in
    let local : DateTime = record { date = c.args.date; time = c.from_second-time.result } in
    let at = rw rules at c.in-Ok.ensures in
    let same : FitsSigned w64 c.floor_second.result = omega (arith, ints) in
    let time = c.from_second-time.ensures in
    rw (to_z-of_z same)
    (instant_found c.args.zone.now local c.args.given c.in-Ok.instant.nanosecond c.floor_second.result time.seconds time.subsec
    at.value c.floor_second.ensures)

pub returns-in-Err-clause-err : goal.returns-in-Err-clause-err
returns-in-Err-clause-err c =
    let rules : c.to_plain.result ≡ rules_of c.args.zone.now = c.to_plain.ensures ∙ c.time_zone.ensures in
    let local : DateTime = record { date = c.args.date; time = c.from_second-time.result } in
    let at = rw rules at c.in-Err.ensures in
    let time = c.from_second-time.ensures in (
      refl,
      instant_outside c.args.zone.now local c.args.given time.seconds time.subsec (λ within. both_ways false refl (at.succeeds.1 within)),
    )
