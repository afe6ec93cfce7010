-- The test of a second says what it tests.
use Rattle.std.proofs.Common.{◌≡◌, ◌≤◌, ◌≤ℤ◌, ℤ, pos, negsuc, true, arith}
use Rattle.std.specs.Prelude.{unsigned_abs}
use Rattle.std.proofs.lemmas.Bool.Decides.{nat_tests}
use Rattle.std.proofs.lemmas.Int.{ints}
use Rattle.host_calls.specs.ClockRange.{IsClockSecond, is_clock_second}
use Rattle.host_calls.specs.declared.clock_seconds.TheConstants.{LAST_SECOND}

-- a second of the range passes the test
pub second_tested : (second : ℤ) → IsClockSecond second → is_clock_second second ≡ true
second_tested (pos second) is = let to : pos second ≤ℤ LAST_SECOND = is.high in grind (arith, ints, nat_tests)
second_tested (negsuc second) is = let from : pos 0 ≤ℤ negsuc second = is.low in grind (arith, ints)

pub second_is : (second : ℤ) → is_clock_second second ≡ true → IsClockSecond second
second_is (pos second) is =
    let at_most : second ≤ unsigned_abs LAST_SECOND = grind (arith, nat_tests) in
    record { low = grind (arith, ints); high = grind (arith, ints) }
second_is (negsuc second) is = cc
