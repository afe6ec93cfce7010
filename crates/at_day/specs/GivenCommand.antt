-- A command that is given on a host (own): how it ends, and what it puts.
use Rattle.std.specs.Prelude.{◌≡◌, ◌≢◌, ◌⊎◌, ◌&&◌, [], ℕ, ℤ, true, List, Some}
use Rattle.at_commands.specs.Tools.{tool_name_of}
use Rattle.at_words.specs.Requests.{request_of}
use Rattle.tool_output.specs.declared.caller.Caller.{Caller}
use Rattle.command_rules.specs.Checks.{Check, is_earlier_check, of_variables}
use Rattle.command_rules.specs.Ends.{CommandEnds}
use Rattle.tool_output.specs.Outside.{Holding, holding, Telling, telling}
use Rattle.command_rules.specs.Found.{Asked, is_submission}
use Rattle.tool_output.specs.Sinks.{SaysBy, SinkAt}
use Rattle.host_calls.specs.Causes.{Rose}
use Rattle.host_calls.specs.Clock.{Answers}
use Rattle.host_calls.specs.Session.{IsLeft}
use Rattle.host_calls.specs.World.{TimePasses, World}
use Rattle.listing_text.specs.Cause.{status_of}
use Rattle.listing_text.specs.declared.cause.Cause.TheVariants.{Busy, FileFault, InputFault, OutputFault, StillRunning}
use Rattle.listing_text.specs.declared.status.Status.{Status}
use Rattle.memory_host.specs.declared.memory_host.MemoryHost.{MemoryHost}
use Rattle.at_day.specs.declared.events_report.EventReport.{EventReport}
use Rattle.at_day.specs.declared.events_report.EventReport.TheVariants as known
use Rattle.memory_host.specs.Host.{IsUnchanged, memory_session, memory_world}
use Rattle.memory_host.specs.Inputs.{given_contents}
use Rattle.memory_host.specs.Readings.{no_answers}

-- a sink that has never failed, and what was put on it
abbrev pub unfailing : List ℕ → SinkAt
unfailing text = record { content = text; faults = 0 }

-- all that the command is handed tells what it holds
abbrev pub all_known : Telling
all_known = telling true true true true true true

-- what the command is handed at first: the spool, a clock that was not asked, the input, and two empty sinks
abbrev pub at_first : World → List ℕ → Holding
at_first spool input = holding spool no_answers (given_contents input (Some input)) (unfailing []) (unfailing [])

-- and what it leaves of them: what was put on the two sinks, of which none has failed
abbrev pub at_last : World → Answers → List ℕ → List ℕ → List ℕ → Holding
at_last spool answers input out err = holding spool answers (given_contents input (Some input)) (unfailing out) (unfailing err)

-- the command came so far that it read the clock
abbrev pub HasReadClock : Asked → Check → Type 0
HasReadClock asked reached = (is_submission asked && is_earlier_check of_variables reached) ≡ true

-- The command was given at the second with the input, and ended with the status. It does and says what a command does
-- and says; where it read the clock, that answered the second.
pub record IsGiven (words : List (List ℕ)) (caller : Caller) (input : List ℕ) (now : ℤ) (status : Status) (out err : List ℕ)
    (old new : MemoryHost) : Type 0 where
  pub code : status ≡ status_of status.cause
  pub left : IsLeft (memory_session old) (memory_session new)
  pub quiet : TimePasses (memory_world old) (memory_world new)
  pub busy : status.cause ≡ Busy → Rose (memory_session old).taken (memory_session new).taken
  pub file_fault : status.cause ≡ FileFault → Rose (memory_session old).file_faults (memory_session new).file_faults
  pub no_input_fault : status.cause ≢ InputFault
  pub no_output_fault : status.cause ≢ OutputFault
  pub not_running : status.cause ≢ StillRunning
  pub answers : Answers
  pub ends : CommandEnds (SaysBy (tool_name_of words)) (request_of words) caller all_known
      (at_first (memory_world old) input) (at_last (memory_world new) answers input out err) status.cause
  pub clock : HasReadClock (request_of words) ends.reached → ends.found.now ≡ now

-- the report of the command is of what was given
abbrev pub GivesReport : List (List ℕ) → Caller → List ℕ → ℤ → EventReport → MemoryHost → MemoryHost → Type 0
GivesReport words caller input now (known.Command status out err) old new = IsGiven words caller input now status out err old new
GivesReport words caller input now _ old new = ⊥

-- memory ran out for the command or its report: the host is as it was, or as the command left it
abbrev pub IsGivenUnreported : List (List ℕ) → Caller → List ℕ → ℤ → MemoryHost → MemoryHost → Type 0
IsGivenUnreported words caller input now old new =
    IsUnchanged old new
    ⊎ ((status : Status) × (out : List ℕ) × (err : List ℕ) × IsGiven words caller input now status out err old new)
