-- The sessions of a crontab (own): the rest after each, and what is said of it.
use Rattle.std.specs.Prelude.{◌≡◌, ◌≢◌, ◌⊎◌, ◌≤◌, ◌-◌, ◌%◌, ℕ, ℤ, Bool, true, List, codes, unsigned_abs}
use Rattle.host_calls.specs.Causes.{Rose}
use Rattle.host_calls.specs.declared.rest.TheConstants.{LONGEST_REST, SHORT_REST}
use Rattle.listing_text.specs.declared.cause.Cause.{Cause}
use Rattle.listing_text.specs.declared.cause.Cause.TheVariants as cause
use Rattle.listing_text.specs.declared.refusal.Refusal.TheVariants as refusal
use Rattle.listing_text.specs.Cause.{cause_line_of}
use Rattle.tool_output.specs.Sinks.{IsCut, IsPut, IsSilent, SinkAt}
use Rattle.cron_text.specs.declared.entry.CronEntry.{CronEntry}
use Rattle.cron_session.specs.declared.report.CronEnd.{CronEnd}
use Rattle.cron_session.specs.declared.report.CronEnd.TheVariants.{Done, Busy, FileFault, Damaged, QueueFull, NumbersUsedUp, Memory}

-- A session: the clock's answer, what the file gave, the entries that it spells, and what the session reported.
pub record CronItem : Type 0 where
  pub now : ℤ
  pub bytes : List ℕ
  pub entries : List CronEntry
  pub end : CronEnd
  pub numbers : List ℕ

-- the name of the program, which begins its lines
abbrev pub cron_program_name : List ℕ
cron_program_name = codes "atcron"

-- the seconds of the rest after a session: up to the next full minute where it was done, else a short one
abbrev pub rest_after_session : CronEnd → ℤ → ℕ
rest_after_session Done now = LONGEST_REST - unsigned_abs now % LONGEST_REST
rest_after_session Busy now = SHORT_REST
rest_after_session FileFault now = SHORT_REST
rest_after_session (Damaged damage) now = SHORT_REST
rest_after_session QueueFull now = SHORT_REST
rest_after_session NumbersUsedUp now = SHORT_REST
rest_after_session Memory now = SHORT_REST

-- the cause of a session's end
abbrev pub cause_of_cron_end : CronEnd → Cause
cause_of_cron_end Done = cause.Done
cause_of_cron_end Busy = cause.Busy
cause_of_cron_end FileFault = cause.FileFault
cause_of_cron_end (Damaged damage) = cause.Damaged damage
cause_of_cron_end QueueFull = cause.Refused refusal.QueueFull
cause_of_cron_end NumbersUsedUp = cause.Refused refusal.NumbersUsedUp
cause_of_cron_end Memory = cause.Memory

-- the line of a session's end; one that was done has none
abbrev pub cron_end_line : CronEnd → List ℕ
cron_end_line end = cause_line_of cron_program_name (cause_of_cron_end end)

-- What is said of a session after which another may come: its line. That of an out-of-memory error may be missing.
-- Where it was done nothing is put: the sink is as it was.
abbrev pub SaysCronEnd : CronEnd → SinkAt → SinkAt → Type 0
SaysCronEnd Memory old new = IsSilent old new ⊎ IsPut (cron_end_line Memory) old new
SaysCronEnd Done old new = new ≡ old
SaysCronEnd Busy old new = IsPut (cron_end_line Busy) old new
SaysCronEnd FileFault old new = IsPut (cron_end_line FileFault) old new
SaysCronEnd (Damaged damage) old new = ⊥
SaysCronEnd QueueFull old new = IsPut (cron_end_line QueueFull) old new
SaysCronEnd NumbersUsedUp old new = IsPut (cron_end_line NumbersUsedUp) old new

-- the session found no damage, so another may come
abbrev pub MayGoOn : CronEnd → Type 0
MayGoOn (Damaged damage) = ⊥
MayGoOn Done = Unit {0}
MayGoOn Busy = Unit {0}
MayGoOn FileFault = Unit {0}
MayGoOn QueueFull = Unit {0}
MayGoOn NumbersUsedUp = Unit {0}
MayGoOn Memory = Unit {0}

-- the session has a line: it was not done, and found no damage
abbrev pub HasLine : CronEnd → Type 0
HasLine Busy = Unit {0}
HasLine FileFault = Unit {0}
HasLine QueueFull = Unit {0}
HasLine NumbersUsedUp = Unit {0}
HasLine Memory = Unit {0}
HasLine _ = ⊥

-- what is said of a session after which another comes
pub record GoesOnSaying (tells : Bool) (end : CronEnd) (old new : SinkAt) : Type 0 where
  pub goes_on : MayGoOn end
  pub later : old.faults ≤ new.faults
  pub says : tells ≡ true → SaysCronEnd end old new

-- its line was cut, since its put failed
pub record IsCutOff (tells : Bool) (end : CronEnd) (old new : SinkAt) : Type 0 where
  pub has_line : HasLine end
  pub rose : Rose old.faults new.faults
  pub cut : tells ≡ true → IsCut (cron_end_line end) old new

-- its line ran out of memory, and is not that of an out-of-memory error
pub record IsUnsaid (tells : Bool) (end : CronEnd) (old new : SinkAt) : Type 0 where
  pub has_line : HasLine end
  pub wanted : end ≢ Memory
  pub unchecked : tells ≡ true → IsSilent old new

-- what is said of a session that is the last one, by the cause for which it is: the line of a damage is still to be put
abbrev pub EndsSaying : Bool → CronEnd → SinkAt → SinkAt → Cause → Type 0
EndsSaying tells end old new (cause.Damaged damage) = (end ≡ Damaged damage) × (new ≡ old)
EndsSaying tells end old new cause.OutputFault = IsCutOff tells end old new
EndsSaying tells end old new cause.Memory = IsUnsaid tells end old new
EndsSaying tells end old new _ = ⊥
