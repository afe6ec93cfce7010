use Rattle.std.proofs.Common.{◌+◌, ◌*◌, ◌<◌, ◌^◌, arith}
use Rattle.text_reader.proofs.DigitLemmas.{more_fits, read_more}
use Rattle.text_reader.proofs.hex_number.read_hex.Goals as goal

-- the number with the digit that was read still fits
fits : (c : goal.In_ok-digit) → c.loop-byte.number * 16 + c.in_ok-digit.digit < 2 ^ 64
fits c = more_fits c.args.bytes.now c.loop-byte.byte-index c.loop-byte.number c.in_ok-digit.digit c.loop-byte.invariant c.requires
    c.loop-byte-test.true c.in_ok-digit.ensures.small

pub overflow_mul-number : goal.overflow_mul-number
overflow_mul-number c = omega (arith, fits c)

pub overflow_add-number : goal.overflow_add-number
overflow_add-number c = omega (arith, fits c)

pub loop-byte-preserved : goal.loop-byte-preserved
loop-byte-preserved c = read_more c.args.bytes.now c.loop-byte.byte-index c.loop-byte.number c.in_ok-digit.digit c.loop-byte.invariant
    c.loop-byte-test.true c.in_ok-digit.ensures.small c.in_ok-digit.ensures.digit
