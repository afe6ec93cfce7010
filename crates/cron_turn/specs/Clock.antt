-- The clock, as a program of crontabs reads it (own).
use Rattle.std.specs.Prelude.{◌≡◌, ℤ, Bool, true}
use Rattle.tool_output.specs.Outside.{ClockAt}
use Rattle.host_calls.specs.Clock.{with_now}

-- the clock answered the second, and no load was read
pub record ReadsClock (tells : Bool) (now : ℤ) (old new : ClockAt) : Type 0 where
  pub known : tells ≡ true → new.answers ≡ with_now now old.answers
  pub readers : new.readers ≡ old.readers
