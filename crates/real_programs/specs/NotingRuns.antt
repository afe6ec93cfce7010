-- How the commands run after which the new jobs are noted (own).
use Rattle.std.specs.Prelude.{◌≡◌, ℕ, Bool, true, false, List}
use Rattle.at_mail.specs.NotingOutcome.{NotesNewJobs}
use Rattle.host_calls.specs.declared.host.Host as host
use Rattle.host_calls.specs.declared.inputs.Inputs as inputs
use Rattle.host_calls.specs.declared.readings.Readings as readings
use Rattle.host_calls.specs.declared.sink.Sink as sink
use Rattle.host_calls.specs.declared.turn_end.TurnEnd.{TurnEnd}
use Rattle.listing_text.specs.Cause.{is_done_cause}
use Rattle.listing_text.specs.declared.status.Status.{Status}
use Rattle.real_programs.specs.declared.system.ProgramSystem.{ProgramSystem}
use Rattle.real_programs.specs.Runs.{IsCommandsRun}
use Rattle.tool_output.specs.declared.caller.Caller.{Caller}

-- The new jobs were noted, however that ended. All but the directory is left alone.
pub record IsNotingRun {D C I O E : Type 0} (h : host.Ghosts D) (old new : ProgramSystem D C I O E) : Type 0 where
  pub end : TurnEnd
  pub notes : NotesNewJobs h.tells h.alone (h.session old.directory) (h.session new.directory)
      (h.world old.directory) (h.world new.directory) end
  pub target : new.target ≡ old.target
  pub clock : new.clock ≡ old.clock
  pub input : new.input ≡ old.input
  pub output : new.output ≡ old.output
  pub errors : new.errors ≡ old.errors

-- they were noted, or nothing was done
abbrev pub NotesIf : {D C I O E : Type 0} → Bool → host.Ghosts D → ProgramSystem D C I O E → ProgramSystem D C I O E → Type 0
NotesIf true h old new = IsNotingRun h old new
NotesIf false h old new = new ≡ old

-- The commands ran, and if what they were to do is done the new jobs were noted.
pub record IsCommandsThenNoting {D C I O E : Type 0} (h : host.Ghosts D) (r : readings.Ghosts C) (i : inputs.Ghosts I)
    (o : sink.Ghosts O) (e : sink.Ghosts E) (words : List (List ℕ)) (caller : Caller) (old new : ProgramSystem D C I O E)
    (status : Status) : Type 0 where
  pub between : ProgramSystem D C I O E
  pub commands : IsCommandsRun h r i o e words caller old between status
  pub noting : NotesIf (is_done_cause status.cause) h between new
