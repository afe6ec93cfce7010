-- The second that a clock tells, and the end of a rest (own).
use Rattle.std.specs.Prelude.{◌/◌, ◌*◌, ◌-◌, ◌^◌, ℕ, ℤ, pos, negsuc, Option, Some, None, nat_lt, if◌then◌else◌}
use Rattle.std.specs.Duration.{as_nanos}
use Rattle.std.specs.declared.time.Duration.{Duration}

-- the second of a time since 1970; -1 where there is none, or where it is no i64
abbrev pub second_in : Option Duration → ℤ
second_in None = negsuc 0
second_in (Some time) =
    let second = as_nanos time / 1_000_000_000 in
    if nat_lt second (2 ^ 63) then pos second else negsuc 0

-- how many nanoseconds a rest of so many seconds has left: by the clock, what has passed since the second in which it began is over
abbrev pub nanos_left : ℕ → Option Duration → Option Duration → ℕ
nanos_left seconds None now = seconds * 1_000_000_000
nanos_left seconds (Some began) None = seconds * 1_000_000_000
nanos_left seconds (Some began) (Some now) =
    seconds * 1_000_000_000 - (as_nanos now - as_nanos began / 1_000_000_000 * 1_000_000_000)
