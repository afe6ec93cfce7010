-- What follows of serving (own): where the outside doesn't fail, it is done, or its time is up while children are left,
-- or it runs out of memory.
use Rattle.std.specs.Prelude.{◌≡◌, ℕ, ℤ, Bool, true}
use Rattle.host_calls.specs.ClockRange.{IsClockSecond}
use Rattle.host_calls.specs.Causes.{Rose}
use Rattle.host_calls.specs.Clock.{Answers, with_now}
use Rattle.host_calls.specs.World.{reading}
use Rattle.listing_text.specs.declared.cause.Cause.{Cause}
use Rattle.listing_text.specs.declared.cause.Cause.TheVariants.{Done, Memory, StillRunning}
use Rattle.tool_output.specs.Sinks.{SinkAt}
use Rattle.step_runs.specs.Good.{IsGood}
use Rattle.serving.specs.Serves.{ServeState}
use Rattle.tool_output.specs.Outside.{Telling}
use Rattle.serving.specs.Serving.{Serving}

-- the cause is no fault of the outside, no damage and no refusal
abbrev pub IsServedWell : Cause → Type 0
IsServedWell Done = Unit {0}
IsServedWell StillRunning = Unit {0}
IsServedWell Memory = Unit {0}
IsServedWell _ = ⊥

-- the last answer of the clock is in its range
abbrev pub IsLastInRange : Answers → Type 0
IsLastInRange answers = (now : ℤ) (earlier : Answers) → answers ≡ with_now now earlier → IsClockSecond now

-- Where the reading shows a table, no count of files, of taken locks or of the output rose, and the clock's last answer is
-- in its range, serving is done, or children are left, or it runs out of memory.
abbrev pub ServingIsDone : Type 0
ServingIsDone = (tells : Telling) (once : Bool) (turns : ℕ) (old new : ServeState)
    (out_old out_new err_old err_new : SinkAt) (cause : Cause) →
    Serving tells once turns old new out_old out_new err_old err_new cause →
    tells.files ≡ true → tells.alone ≡ true → tells.clock ≡ true →
    IsGood (reading old.spool.world) →
    ¬ (Rose old.spool.session.taken new.spool.session.taken) →
    ¬ (Rose old.spool.session.file_faults new.spool.session.file_faults) →
    ¬ (Rose out_old.faults out_new.faults) → IsLastInRange new.clock.answers → IsServedWell cause
