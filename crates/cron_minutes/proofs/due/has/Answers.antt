use Rattle.std.proofs.Common.{◌<◌, ◌^◌, arith}
use Rattle.std.proofs.lemmas.Bool.Decides.{nat_tests}
use Rattle.std.proofs.lemmas.Nat.Bits.{bit_at_above}
use Rattle.cron_minutes.proofs.due.has.Goals as goal

pub returns-else-value-lt64 : goal.returns-else-value-lt64
returns-else-value-lt64 c =
    let fits : c.args.field.now.bits < 2 ^ 64 = omega arith in
    rw (bit_at_above c.args.field.now.bits 64 c.args.value fits (omega arith)) (grind (arith, nat_tests))
