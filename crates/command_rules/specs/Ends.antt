-- How a command ends: one record for all requests.
use Rattle.std.specs.Prelude.{◌≡◌, ◌⊎◌, Bool, true, false, List, Option, Some, None, Result, Ok, ℕ}
use Rattle.at_words.specs.declared.tool_request.ToolRequest.TheVariants as request
use Rattle.host_calls.specs.declared.damage.Damage.{Damage}
use Rattle.host_calls.specs.Causes.{Rose}
use Rattle.host_calls.specs.Clock.{Answers}
use Rattle.host_calls.specs.Inputs.{Contents}
use Rattle.host_calls.specs.Sink.{Outlet}
use Rattle.host_calls.specs.World.{World, reading}
use Rattle.listing_text.specs.declared.cause.Cause.{Cause}
use Rattle.listing_text.specs.declared.cause.Cause.TheVariants.{Done, Refused, FileFault, InputFault, OutputFault, Busy, Memory, Damaged}
use Rattle.listing_text.specs.declared.refusal.Refusal.{Refusal}
use Rattle.spool_model.specs.JobTable.{JobTable}
use Rattle.tool_output.specs.declared.caller.Caller.{Caller}
use Rattle.command_rules.specs.Checks.{Check, ComesUpTo, check_of, is_earlier_check, of_input, of_lock, of_spool, of_output}
use Rattle.command_rules.specs.Found.{AreInDirectory, Asked, Finds, Found, answers_read, is_listing}
use Rattle.command_rules.specs.Requested.{AreAskedSteps, IsAskedLine, IsAskedText}
use Rattle.tool_output.specs.Outside.{Holding, Telling}
use Rattle.tool_output.specs.Sinks.{HasBytes, PrintsBy, SinkAt}
use Rattle.command_rules.specs.Spool.{SpoolEnds}
use Rattle.command_rules.specs.Verdict.{verdict_of}

-- the fault comes before this check
abbrev pub ComesBefore : Cause → Check → Type 0
ComesBefore InputFault check = is_earlier_check of_input check ≡ true
ComesBefore Busy check = is_earlier_check of_lock check ≡ true
ComesBefore FileFault check = is_earlier_check of_lock check ≡ true
ComesBefore (Damaged damage) check = is_earlier_check of_spool check ≡ true
ComesBefore _ check = ⊥

-- the cause is no refusal
abbrev pub IsNoRefusal : Cause → Type 0
IsNoRefusal Done = Unit {0}
IsNoRefusal FileFault = Unit {0}
IsNoRefusal InputFault = Unit {0}
IsNoRefusal OutputFault = Unit {0}
IsNoRefusal Busy = Unit {0}
IsNoRefusal Memory = Unit {0}
IsNoRefusal (Damaged damage) = Unit {0}
IsNoRefusal _ = ⊥

-- The cause keeps to the order of checks: it is the verdict's refusal, or none where the verdict is none.
-- An out-of-memory error may be in its place, or a fault of the outside that comes before its check.
abbrev pub KeepsOrder : Option Refusal → Cause → Type 0
KeepsOrder None cause = IsNoRefusal cause
KeepsOrder (Some refusal) cause = (cause ≡ Refused refusal) ⊎ ((cause ≡ Memory) ⊎ ComesBefore cause (check_of refusal))

-- the cause stops a command before it requests the lock
abbrev pub StopsBeforeLock : Cause → Type 0
StopsBeforeLock (Refused refusal) = is_earlier_check (check_of refusal) of_lock ≡ true
StopsBeforeLock InputFault = Unit {0}
StopsBeforeLock _ = ⊥

-- a fault of the spool comes at the lock, at the lists, at the directory, or at the steps
abbrev pub IsSpoolCheck : Check → Type 0
IsSpoolCheck check = (is_earlier_check check of_lock ≡ false) × (is_earlier_check check of_output ≡ true)

-- how far in the order of checks a command came that ends so
abbrev pub Reaches : Cause → Check → Type 0
Reaches Done check = check ≡ of_output
Reaches OutputFault check = check ≡ of_output
Reaches (Refused refusal) check = check ≡ check_of refusal
Reaches InputFault check = check ≡ of_input
Reaches Busy check = check ≡ of_lock
Reaches FileFault check = IsSpoolCheck check
Reaches (Damaged damage) check = check ≡ of_spool
Reaches Memory check = Unit {0}
Reaches _ check = ⊥

-- How a command ends that was requested so: over what it found outside, which is what was told, and over how far it came.
-- The output of a listing can fail only where it has a line. What is said to the caller is a parameter: before the line of
-- the cause, or with it.
pub record CommandEnds (Notes : Cause → (List ℕ → Type 0) → SinkAt → SinkAt → Type 0) (asked : Asked) (caller : Caller)
    (tells : Telling) (before after : Holding) (cause : Cause) : Type 0 where
  pub found : Found
  pub shown : Result JobTable Damage
  pub reached : Check
  pub reach : Reaches cause reached
  pub order : KeepsOrder (verdict_of asked caller found shown) cause
  pub up_to : ComesUpTo (verdict_of asked caller found shown) reached
  pub clock : tells.clock ≡ true → after.answers ≡ answers_read asked reached found.now before.answers
  pub finds : Finds tells.input asked caller.zone before.contents reached found
  pub directory : tells.files ≡ true → tells.alone ≡ true → AreInDirectory (reading before.spool) found shown
  pub apart : tells.files ≡ true → tells.alone ≡ true → is_earlier_check reached of_spool ≡ true → after.spool ≡ before.spool
  pub spool : tells.files ≡ true → tells.alone ≡ true → SpoolEnds (AreAskedSteps asked caller found) before.spool after.spool cause
  pub prints : tells.files ≡ true → tells.alone ≡ true → tells.output ≡ true →
      PrintsBy cause (IsAskedText asked caller found shown) before.output after.output
  pub listed : tells.files ≡ true → tells.alone ≡ true → is_listing asked ≡ true → cause ≡ OutputFault →
      HasBytes (IsAskedText asked caller found shown)
  pub notes : tells.errors ≡ true → Notes cause (IsAskedLine asked caller found shown) before.errors after.errors

-- the output of a command fails where the sink does that it goes to: that for errors of a submission, else the other
abbrev pub FailsToPrint : Asked → Outlet → Outlet → Outlet → Outlet → Type 0
FailsToPrint (Ok (request.Submit queue mail file when)) out_old out_new err_old err_new =
    Rose err_old.sink_faults err_new.sink_faults
FailsToPrint _ out_old out_new err_old err_new = Rose out_old.sink_faults out_new.sink_faults
