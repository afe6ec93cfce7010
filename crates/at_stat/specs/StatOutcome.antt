-- How the program ends (own): its sessions, the lines that are put, what is said, and the exit status.
use Rattle.std.specs.Prelude.{◌≡◌, ◌⊎◌, ℕ, Bool, true, false, List, Option, Some, None, Result, Ok, Err}
use Rattle.at_words.specs.declared.fault.WordsFault.{WordsFault}
use Rattle.tool_output.specs.Causes.{error_of, words_cause}
use Rattle.tool_output.specs.declared.caller.Caller.{Caller}
use Rattle.tool_output.specs.Outside.{OutsideAt, Telling, no_inputs, no_sink, outside_at}
use Rattle.tool_output.specs.SaidLines.{IsSaid}
use Rattle.tool_output.specs.Sinks.{IsCut, IsPut, IsSilent, SinkAt}
use Rattle.civil_minute.specs.declared.zone.Zone.{Zone}
use Rattle.host_calls.specs.Causes.{Rose}
use Rattle.host_calls.specs.declared.host.Host as host
use Rattle.host_calls.specs.declared.readings.Readings as readings
use Rattle.host_calls.specs.declared.sink.Sink as sink
use Rattle.host_calls.specs.Session.{IsLeft}
use Rattle.host_calls.specs.World.{TimePasses}
use Rattle.at_stat.specs.Reports.{AreAsked, IsReport}
use Rattle.listing_text.specs.Cause.{code_of}
use Rattle.listing_text.specs.declared.cause.Cause.{Cause}
use Rattle.listing_text.specs.declared.cause.Cause.TheVariants.{Busy, Damaged, FileFault, Memory, OutputFault, Refused, StillRunning}
use Rattle.listing_text.specs.declared.refusal.Refusal.{Refusal}
use Rattle.spool_model.specs.JobTable.{JobTable}
use Rattle.step_runs.specs.Current.{Kept}
use Rattle.at_stat.specs.Checks.{done_code, early_check}
use Rattle.at_stat.specs.declared.program.TheConstants.{PROGRAM}
use Rattle.at_stat.specs.declared.request.StatRequest.{StatRequest}
use Rattle.at_stat.specs.declared.status.StatExit.{StatExit}
use Rattle.at_stat.specs.WaitSessions.{HasSeen, HasStopped, WaitAt, wait_at, wait_telling}

-- the status of a cause for which the program was not done
abbrev pub stopped_status : Cause → StatExit
stopped_status cause = record { code = code_of cause; cause = Some cause }

-- all that the program is handed before it says its cause: no inputs, and nothing to say it on
abbrev pub stat_outside : {H R O : Type 0} → host.Ghosts H → readings.Ghosts R → sink.Ghosts O → H → R → O → OutsideAt
stat_outside h r o host readings out = outside_at h r no_inputs o no_sink host readings tt out tt

-- what its sessions work with, and which of that tells what it holds
abbrev pub wait_of : OutsideAt → WaitAt
wait_of at = wait_at at.session at.holds.spool at.holds.answers at.readers

abbrev pub wait_tells : OutsideAt → Telling
wait_tells at = wait_telling at.tells.files at.tells.alone at.tells.clock

-- the text has a line for each of the jobs that are requested, on the table
pub record IsText (request : StatRequest) (user : List ℕ) (zone : Zone) (table : JobTable) (text : List ℕ) : Type 0 where
  pub numbers : List ℕ
  pub asked : AreAsked table user request.which numbers
  pub report : IsReport request.form zone table numbers text

abbrev pub IsTextFor : StatRequest → Caller → JobTable → List ℕ → Type 0
IsTextFor request caller table text = IsText request caller.context.user caller.zone table text

-- the sessions were made; this is what the last one saw, and whether each awaited job was done by then
abbrev pub SeesLast : StatRequest → Caller → Telling → WaitAt → WaitAt → Kept → Bool → Type 0
SeesLast request caller tells old new kept finished =
    HasSeen tells caller.context.user request.wait request.which old new kept finished

-- The lines were put, over the table that the last session saw, and this comes to the status.
pub record ShowsStates (request : StatRequest) (caller : Caller) (old new : OutsideAt) (finished : Bool) (code : ℕ) : Type 0 where
  pub kept : Kept
  pub text : List ℕ
  pub sees : SeesLast request caller (wait_tells old) (wait_of old) (wait_of new) kept finished
  pub is : IsTextFor request caller kept.table text
  pub put : old.tells.output ≡ true → IsPut text old.holds.output new.holds.output
  pub code_is : finished ≡ true → code ≡ done_code request.wait request.which kept.table

-- The lines were put in part, and the output failed.
pub record IsStatCutShort (request : StatRequest) (caller : Caller) (old new : OutsideAt) : Type 0 where
  pub kept : Kept
  pub finished : Bool
  pub text : List ℕ
  pub sees : SeesLast request caller (wait_tells old) (wait_of old) (wait_of new) kept finished
  pub is : IsTextFor request caller kept.table text
  pub cut : old.tells.output ≡ true → IsCut text old.holds.output new.holds.output

-- The sessions were stopped, and nothing was put.
pub record IsStatStopped (request : StatRequest) (caller : Caller) (old new : OutsideAt) (cause : Cause) : Type 0 where
  pub stopped : HasStopped (wait_tells old) caller.context.user request.wait request.which (wait_of old) (wait_of new) (error_of cause)
  pub unchecked : old.tells.output ≡ true → IsSilent old.holds.output new.holds.output

-- The sessions were made, and memory ran out for the lines, of which none was put.
pub record IsUnwritten (request : StatRequest) (caller : Caller) (old new : OutsideAt) : Type 0 where
  pub kept : Kept
  pub finished : Bool
  pub sees : SeesLast request caller (wait_tells old) (wait_of old) (wait_of new) kept finished
  pub unchecked : old.tells.output ≡ true → IsSilent old.holds.output new.holds.output

-- nothing was done, for this cause
pub record IsStatIdle (cause : Cause) (old new : OutsideAt) (status : StatExit) : Type 0 where
  pub status_is : status ≡ stopped_status cause
  pub wait : wait_of new ≡ wait_of old
  pub unchecked : old.tells.output ≡ true → IsSilent old.holds.output new.holds.output

-- how the program ends after its checks, by its cause
abbrev pub EndsBy : StatRequest → Caller → OutsideAt → OutsideAt → ℕ → Option Cause → Type 0
EndsBy request caller old new code None = ShowsStates request caller old new true code
EndsBy request caller old new code (Some StillRunning) = ShowsStates request caller old new false code
EndsBy request caller old new code (Some OutputFault) = IsStatCutShort request caller old new
EndsBy request caller old new code (Some Memory) =
    IsUnwritten request caller old new ⊎ IsStatStopped request caller old new Memory
EndsBy request caller old new code (Some FileFault) = IsStatStopped request caller old new FileFault
EndsBy request caller old new code (Some Busy) = IsStatStopped request caller old new Busy
EndsBy request caller old new code (Some (Damaged damage)) = IsStatStopped request caller old new (Damaged damage)
EndsBy request caller old new code (Some (Refused refusal)) = IsStatStopped request caller old new (Refused refusal)
EndsBy request caller old new code (Some _) = ⊥

-- the user and the zone are checked before the spool is entered
abbrev pub EndsChecked : Option Refusal → StatRequest → Caller → OutsideAt → OutsideAt → StatExit → Type 0
EndsChecked (Some refusal) request caller old new status = IsStatIdle (Refused refusal) old new status
EndsChecked None request caller old new status = EndsBy request caller old new status.code status.cause

-- how the program ends before its last line is said, where its words request something; or memory ran out to read them
abbrev pub StatEnds : StatRequest → Caller → OutsideAt → OutsideAt → StatExit → Type 0
StatEnds request caller old new status =
    EndsChecked (early_check caller) request caller old new status ⊎ IsStatIdle Memory old new status

-- words that request nothing are said to be wrong, or ran out of memory
abbrev pub IsStatUnasked : WordsFault → OutsideAt → OutsideAt → StatExit → Type 0
IsStatUnasked fault old new status = IsStatIdle (words_cause fault) old new status ⊎ IsStatIdle Memory old new status

-- where there is a cause, the exit status is that of the cause
abbrev pub HasCode : StatExit → Type 0
HasCode status = (cause : Cause) → status.cause ≡ Some cause → status.code ≡ code_of cause

-- each fault comes only where its count rose
pub record HasRisenStating (old new : OutsideAt) (cause : Option Cause) : Type 0 where
  pub file_fault : cause ≡ Some FileFault → Rose old.session.file_faults new.session.file_faults
  pub busy : cause ≡ Some Busy → Rose old.session.taken new.session.taken
  pub output_fault : cause ≡ Some OutputFault → Rose old.out.sink_faults new.out.sink_faults

-- What the program did before its last line was said: no session is on, no child was started; no load
-- was read; each fault comes only where its count rose; and how it ended.
pub record HasStatEnded (asked : Result StatRequest WordsFault) (caller : Caller) (old new : OutsideAt)
    (status : StatExit) : Type 0 where
  pub left : IsLeft old.session new.session
  pub goes_on : old.tells.files ≡ true → TimePasses old.holds.spool new.holds.spool
  pub readers : new.readers ≡ old.readers
  pub made_as : new.out.made_as ≡ old.out.made_as
  pub risen : HasRisenStating old new status.cause
  pub code : HasCode status
  pub unasked : (fault : WordsFault) → asked ≡ Err fault → IsStatUnasked fault old new status
  pub ends : (request : StatRequest) → asked ≡ Ok request → StatEnds request caller old new status

-- the line of the cause, if there is one; where it ran out of memory the cause is that
abbrev pub SaysCause : Bool → SinkAt → SinkAt → ℕ → Option Cause → StatExit → Type 0
SaysCause tells old new code None status = (status ≡ record { code = code; cause = None }) × (tells ≡ true → new ≡ old)
SaysCause tells old new code (Some cause) status =
    (final : Cause) × (status ≡ stopped_status final) × IsSaid PROGRAM.now tells cause old new final

-- How the program ends: all that it did, and the line of its cause.
pub record Stating (asked : Result StatRequest WordsFault) (caller : Caller) (old new : OutsideAt) (errors : Bool)
    (said_old said_new : SinkAt) (status : StatExit) : Type 0 where
  pub before : StatExit
  pub ended : HasStatEnded asked caller old new before
  pub says : SaysCause errors said_old said_new before.code before.cause status
