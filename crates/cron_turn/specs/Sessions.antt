-- One session of the program (own): the clock is read, then the file, and the session is made; or how the program ends
-- there.
use Rattle.std.specs.Prelude.{◌≡◌, ◌⊎◌, ◌+◌, ◌≤◌, ◌<◌, ℕ, ℤ, Bool, true, List, Option, Some, None, length}
use Rattle.tool_output.specs.Outside.{Telling, WorkAt}
use Rattle.host_calls.specs.ClockRange.{IsClockSecond}
use Rattle.host_calls.specs.Causes.{Rose}
use Rattle.host_calls.specs.Inputs.{IsInputPrefix}
use Rattle.listing_text.specs.declared.cause.Cause.{Cause}
use Rattle.listing_text.specs.declared.cause.Cause.TheVariants.{Refused, InputFault, Memory}
use Rattle.listing_text.specs.declared.refusal.Refusal.TheVariants.{BadClock, BadCrontab, TooLong}
use Rattle.tool_output.specs.declared.caller.Caller.{Caller}
use Rattle.cron_text.specs.declared.crontab.TheConstants.{MAX_CRONTAB}
use Rattle.cron_text.specs.Crontab.{SpellsCrontab}
use Rattle.cron_turn.specs.Clock.{ReadsClock}
use Rattle.cron_turn.specs.CrontabFile.{AsksFile, IsBadAt, ReadsFile}
use Rattle.cron_session.specs.SessionOutcome.{CronAt, CronsTo}
use Rattle.cron_session.specs.Steps.{Cron}
use Rattle.cron_turn.specs.Items.{EndsSaying, CronItem}

-- what the session of an item is to do
abbrev pub cron_of_item : Caller → CronItem → Cron
cron_of_item caller item = record { context = caller.context; zone = caller.zone; entries = item.entries; now = item.now }

-- The session of the item was made: at the second that the clock answered, on the entries that the file spelled then.
pub record IsSessionMade (tells : Telling) (caller : Caller) (path : List ℕ) (item : CronItem)
    (old new : WorkAt CronAt) : Type 0 where
  pub now : IsClockSecond item.now
  pub clock : ReadsClock tells.clock item.now old.clock new.clock
  pub input : ReadsFile tells.input path item.bytes old.input new.input
  pub few : length item.bytes ≤ MAX_CRONTAB
  pub spelled : SpellsCrontab item.bytes item.entries
  pub session : CronsTo tells.files tells.alone (cron_of_item caller item) old.spool new.spool item.end item.numbers

-- no session was made, and nothing was said
pub record IsUnmade (old new : WorkAt CronAt) : Type 0 where
  pub spool : new.spool ≡ old.spool
  pub said : new.said ≡ old.said

-- the clock answered a second out of its range
pub record CronStopsAtClock (tells : Telling) (old new : WorkAt CronAt) : Type 0 where
  pub now : ℤ
  pub out : ¬ (IsClockSecond now)
  pub clock : ReadsClock tells.clock now old.clock new.clock
  pub input : new.input ≡ old.input
  pub unmade : IsUnmade old new

-- the file was requested, after the clock had answered a second in its range
pub record StopsAtFile (tells : Telling) (old new : WorkAt CronAt) : Type 0 where
  pub now : ℤ
  pub range : IsClockSecond now
  pub clock : ReadsClock tells.clock now old.clock new.clock
  pub input : AsksFile old.input new.input
  pub unmade : IsUnmade old new

-- and gave bytes of which this holds
pub record StopsAtText (tells : Telling) (path : List ℕ) (IsSo : List ℕ → Type 0) (old new : WorkAt CronAt) : Type 0 where
  pub at_file : StopsAtFile tells old new
  pub bytes : List ℕ
  pub given : tells.input ≡ true → IsInputPrefix (old.input.contents.file path) (MAX_CRONTAB + 1) bytes
  pub so : IsSo bytes

-- Why no session was made: the clock, the inputs, a text that is too long or has a bad line, or an out-of-memory
-- error.
abbrev pub StopsBefore : Telling → List ℕ → WorkAt CronAt → (WorkAt CronAt) → Cause → Type 0
StopsBefore tells path old new (Refused BadClock) = CronStopsAtClock tells old new
StopsBefore tells path old new (Refused TooLong) = StopsAtText tells path (λ bytes. MAX_CRONTAB < length bytes) old new
StopsBefore tells path old new (Refused (BadCrontab line)) = StopsAtText tells path (IsBadAt line) old new
StopsBefore tells path old new InputFault =
    StopsAtFile tells old new × Rose old.input.sources.input_faults new.input.sources.input_faults
StopsBefore tells path old new Memory = StopsAtFile tells old new
StopsBefore tells path old new _ = ⊥

-- a session was made, and is the last one for this cause
pub record StopsAfter (tells : Telling) (caller : Caller) (path : List ℕ) (old new : WorkAt CronAt) (cause : Cause) : Type 0 where
  pub item : CronItem
  pub made : IsSessionMade tells caller path item old new
  pub says : EndsSaying tells.errors item.end old.said new.said cause

-- how the program ends at one more session
abbrev pub Stops : Telling → Caller → List ℕ → WorkAt CronAt → (WorkAt CronAt) → Cause → Type 0
Stops tells caller path old new cause = StopsBefore tells path old new cause ⊎ StopsAfter tells caller path old new cause
