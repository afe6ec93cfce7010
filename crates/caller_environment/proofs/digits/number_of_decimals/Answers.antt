use Rattle.std.proofs.Common.{ℕ, ◌^◌, ◌<◌, ◌≤◌, arith}
use Rattle.std.proofs.Math.Nat.{pow-le-pow_right}
use Rattle.caller_environment.proofs.digits.number_of_decimals.Goals as goal

-- a number below that many tens is below ten thousand million
below-most : (number count : ℕ) → number < 10 ^ count → count ≤ 10 → number < 10 ^ 10
below-most number count small few = let most : 10 ^ count ≤ 10 ^ 10 = pow-le-pow_right (omega arith) few in omega arith

pub overflow_mul-number : goal.overflow_mul-number
overflow_mul-number c =
    let loop = c.loop-byte in
    let small = below-most loop.number loop.byte-index loop.invariant.small (omega arith) in omega arith

pub overflow_add-number : goal.overflow_add-number
overflow_add-number c =
    let loop = c.loop-byte in
    let small = below-most loop.number loop.byte-index loop.invariant.small (omega arith) in omega arith
