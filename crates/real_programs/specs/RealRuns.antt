-- How a program runs over the real system that is made for it (own).
use Rattle.std.specs.Prelude.{ℕ, List}
use Rattle.host_calls.specs.declared.host.Host as host
use Rattle.host_calls.specs.declared.inputs.Inputs as inputs
use Rattle.host_calls.specs.declared.readings.Readings as readings
use Rattle.host_calls.specs.declared.sink.Sink as sink
use Rattle.memory_host.specs.declared.memory_host.MemoryHost.{MemoryHost}
use Rattle.real_programs.specs.declared.program.Program.{Program}
use Rattle.real_programs.specs.declared.program_exit.ProgramExit.{ProgramExit}
use Rattle.real_programs.specs.declared.system.ProgramSystem.{ProgramSystem}
use Rattle.real_programs.specs.declared.system_plan.SystemPlan.{SystemPlan}
use Rattle.real_programs.specs.declared.witnesses.Witnesses.{Witnesses}
use Rattle.real_programs.specs.Made.{IsSystem}
use Rattle.real_programs.specs.ProgramRuns.{IsProgramRun}
use Rattle.tool_output.specs.declared.caller.Caller.{Caller}
use Rattle.unix_host.specs.declared.host.UnixHost.{UnixHost}
use Rattle.witnessed_host.specs.declared.noted_sink.NotedSink.{NotedSink}
use Rattle.witnessed_host.specs.declared.witnessed.Witnessed.{Witnessed}
use Rattle.witnessed_host.specs.declared.witnessed_inputs.WitnessedInputs.{WitnessedInputs}

-- The system was made by this plan, with this clock and next to these witnesses, and the program ran over it once. This is what
-- it left, and its exit.
pub record IsRealRun {W V R A B C D E F G I O S L : Type 0} (h : host.Ghosts (Witnessed (UnixHost R A B C D E F G) W))
    (m : host.Ghosts MemoryHost) (r : readings.Ghosts L) (i : inputs.Ghosts (WitnessedInputs I V))
    (o : sink.Ghosts (NotedSink O)) (e : sink.Ghosts (NotedSink S)) (program : Program) (words : List (List ℕ))
    (caller : Caller) (plan : SystemPlan) (clock : L) (witnesses : Witnesses W V)
    (left : ProgramSystem (Witnessed (UnixHost R A B C D E F G) W) L (WitnessedInputs I V) (NotedSink O) (NotedSink S))
    (exit : ProgramExit) : Type 0 where
  pub first : ProgramSystem (Witnessed (UnixHost R A B C D E F G) W) L (WitnessedInputs I V) (NotedSink O) (NotedSink S)
  pub made : IsSystem h program plan clock witnesses first
  pub ran : IsProgramRun h m r i o e program words caller first left exit

-- The same of a main without the launcher: by the words of the process and for its caller.
pub record IsRunAlone {W V R A B C D E F G I O S L : Type 0} (h : host.Ghosts (Witnessed (UnixHost R A B C D E F G) W))
    (m : host.Ghosts MemoryHost) (r : readings.Ghosts L) (i : inputs.Ghosts (WitnessedInputs I V))
    (o : sink.Ghosts (NotedSink O)) (e : sink.Ghosts (NotedSink S)) (program : Program) (witnesses : Witnesses W V)
    (left : ProgramSystem (Witnessed (UnixHost R A B C D E F G) W) L (WitnessedInputs I V) (NotedSink O) (NotedSink S))
    (exit : ProgramExit) : Type 0 where
  pub words : List (List ℕ)
  pub caller : Caller
  pub plan : SystemPlan
  pub clock : L
  pub ran : IsRealRun h m r i o e program words caller plan clock witnesses left exit
