use Rattle.std.proofs.Common.{arith}
use Rattle.load_reading.proofs.LoadLemmas.{below-most}
use Rattle.load_reading.proofs.load.number_of_digits.Goals as goal

pub overflow_mul-number : goal.overflow_mul-number
overflow_mul-number c =
    let loop = c.loop-byte in
    let small = below-most loop.number loop.byte-index loop.invariant.small (omega arith) in omega arith

pub overflow_add-number : goal.overflow_add-number
overflow_add-number c =
    let loop = c.loop-byte in
    let small = below-most loop.number loop.byte-index loop.invariant.small (omega arith) in omega arith

pub returns-clause-small : goal.returns-clause-small
returns-clause-small c =
    let loop = c.loop-byte in below-most loop.number loop.byte-index loop.invariant.small (omega arith)
