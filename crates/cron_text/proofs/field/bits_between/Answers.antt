use Rattle.std.proofs.Common.{◌+◌, arith}
use Rattle.cron_text.specs.inside.Reader.{bits_between}
use Rattle.cron_text.proofs.BitLemmas.{power-fits, powers-ordered}
use Rattle.cron_text.proofs.field.bits_between.Goals as goal

pub overflow_sub-result : goal.overflow_sub-result
overflow_sub-result c =
    let first = c.args.first in
    let last = c.args.last in
    rw (power-fits first (omega arith), power-fits (last + 1) (omega arith)) (powers-ordered first last (omega arith))

pub returns : goal.returns
unfolding bits_between
returns c =
    rw (power-fits c.args.first (omega arith), power-fits (c.args.last + 1) (omega arith))
