-- How long a session rests between two tries at a taken lock (own).
use Rattle.std.specs.Prelude.{◌*◌, ◌+◌, ◌-◌, ◌^◌, ◌==◌, ℕ, Bool, Option, Some, None, false, if◌then◌else◌, min, nat_le, nat_lt}
use Rattle.unix_host.specs.declared.waits.TheConstants.{NAPS, NAPS_ELSEWHERE, NAPS_ON_TERMINAL, TRIES}
use Rattle.unix_host.specs.declared.waits.Waits.{Waits}
use Rattle.unix_host.specs.declared.waits.Waits.TheVariants.{Asking, Napping, NappingOnTerminal}

-- how many naps come first
abbrev pub naps_of : Waits → ℕ
naps_of Asking = 0
naps_of Napping = NAPS
naps_of NappingOnTerminal = NAPS

-- the line that says what is waited for comes after so many tries
abbrev pub is_told : Waits → ℕ → Bool
is_told Asking tries = false
is_told Napping tries = tries == NAPS_ELSEWHERE
is_told NappingOnTerminal tries = tries == NAPS_ON_TERMINAL

-- how many milliseconds the nap after so many tries lasts: 1, 2, 4, 8, and 10 from then on
abbrev pub nap_after : ℕ → ℕ
nap_after tries = min (2 ^ min (tries - 1) 4) 10

-- how many nanoseconds a session rests after so many tries: a nap, then a second, and no more after the last try
abbrev pub rest_after : Waits → ℕ → Option ℕ
rest_after waits tries =
    if nat_le tries (naps_of waits) then Some (nap_after tries * 1_000_000)
    else if nat_lt tries (naps_of waits + TRIES) then Some 1_000_000_000
    else None
