-- How a tool ends, by its words (own).
use Rattle.std.specs.Prelude.{◌≡◌, ℕ, Bool, true, List, Option, Some, None, codes}
use Rattle.caller_environment.specs.declared.tool_name.ToolName.{ToolName}
use Rattle.caller_environment.specs.declared.tool_name.ToolName.TheVariants.{Atday, Atcron}
use Rattle.caller_rules.specs.DaemonStarts.{has_option}
use Rattle.caller_rules.specs.declared.tool_spool.ToolSpool.{ToolSpool}
use Rattle.host_calls.specs.declared.host.Host as host
use Rattle.host_calls.specs.declared.inputs.Inputs as inputs
use Rattle.host_calls.specs.declared.readings.Readings as readings
use Rattle.host_calls.specs.declared.sink.Sink as sink
use Rattle.launcher.specs.Descriptions.{description_asked}
use Rattle.launcher.specs.Launches.{EndsLaunch}
use Rattle.launcher.specs.SpoolsOfTools.{IsSpoolOfTool}
use Rattle.system_calls.specs.Calls.{Continues}
use Rattle.process_input.specs.declared.invoker.Invoker.{Invoker}
use Rattle.launcher.specs.declared.self_description.Description.{Description}
use Rattle.launcher.specs.declared.tool_end.HowEnded.{HowEnded}
use Rattle.launcher.specs.declared.tool_end.HowEnded.TheVariants.{Described, UnknownCaller, Apart, Refused, Launched}
use Rattle.memory_host.specs.declared.memory_host.MemoryHost.{MemoryHost}
use Rattle.real_programs.specs.declared.program.Program.{Program}
use Rattle.real_programs.specs.declared.program.Program.TheVariants.{Commands, Next}
use Rattle.real_programs.specs.declared.program_exit.ProgramExit.{ProgramExit}
use Rattle.real_programs.specs.declared.system.ProgramSystem.{ProgramSystem}
use Rattle.real_programs.specs.declared.system_plan.SystemPlan.{SystemPlan}
use Rattle.real_programs.specs.declared.witnesses.Witnesses.{Witnesses}
use Rattle.real_programs.specs.RealRuns.{IsRealRun}
use Rattle.system_calls.specs.SystemCall.{SystemCall}
use Rattle.tool_output.specs.declared.caller.Caller.{Caller}
use Rattle.unix_host.specs.declared.host.UnixHost.{UnixHost}
use Rattle.witnessed_host.specs.declared.noted_sink.NotedSink.{NotedSink}
use Rattle.witnessed_host.specs.declared.witnessed.Witnessed.{Witnessed}
use Rattle.witnessed_host.specs.declared.witnessed_inputs.WitnessedInputs.{WitnessedInputs}

-- the program of a tool that needs no spool: a day, and a listing of next minutes
abbrev pub program_apart : ToolName → Bool → Option Program
program_apart Atday next = Some Commands
program_apart Atcron true = Some Next
program_apart _ _ = None

-- The program ran once, with no spool, by these words and for some caller. This is what it left, and its exit.
pub record HasRunApart {W V R A B C D E F G I O S L : Type 0} (h : host.Ghosts (Witnessed (UnixHost R A B C D E F G) W))
    (m : host.Ghosts MemoryHost) (r : readings.Ghosts L) (i : inputs.Ghosts (WitnessedInputs I V))
    (o : sink.Ghosts (NotedSink O)) (e : sink.Ghosts (NotedSink S)) (program : Program) (words : List (List ℕ))
    (witnesses : Witnesses W V)
    (left : ProgramSystem (Witnessed (UnixHost R A B C D E F G) W) L (WitnessedInputs I V) (NotedSink O) (NotedSink S))
    (exit : ProgramExit) : Type 0 where
  pub caller : Caller
  pub plan : SystemPlan
  pub clock : L
  pub ran : IsRealRun h m r i o e program words caller plan clock witnesses left exit

-- the program ran so, or it can't be found out who calls and nothing ran
abbrev pub IsEndApart : {W V R A B C D E F G I O S L : Type 0} → host.Ghosts (Witnessed (UnixHost R A B C D E F G) W) →
    host.Ghosts MemoryHost → readings.Ghosts L → inputs.Ghosts (WitnessedInputs I V) → sink.Ghosts (NotedSink O) →
    sink.Ghosts (NotedSink S) → Program → List (List ℕ) → Witnesses W V → HowEnded →
    Option (ProgramSystem (Witnessed (UnixHost R A B C D E F G) W) L (WitnessedInputs I V) (NotedSink O) (NotedSink S)) →
    ProgramExit → Type 0
IsEndApart h m r i o e program words witnesses Apart (Some left) exit =
    HasRunApart h m r i o e program words witnesses left exit
IsEndApart h m r i o e program words witnesses UnknownCaller left exit = left ≡ None
IsEndApart h m r i o e program words witnesses _ left exit = ⊥

-- The tool has this spool, by its words, of which some are left. Then it was launched on it for this caller.
pub record IsLaunchedTool {W V R A B C D E F G I O S L : Type 0} (h : host.Ghosts (Witnessed (UnixHost R A B C D E F G) W))
    (m : host.Ghosts MemoryHost) (r : readings.Ghosts L) (i : inputs.Ghosts (WitnessedInputs I V))
    (o : sink.Ghosts (NotedSink O)) (e : sink.Ghosts (NotedSink S)) (tool : ToolName) (words own_words : List (List ℕ))
    (invoker : Invoker) (spool : ToolSpool) (witnesses : Witnesses W V) (old new : List SystemCall)
    (left : Option (ProgramSystem (Witnessed (UnixHost R A B C D E F G) W) L (WitnessedInputs I V) (NotedSink O) (NotedSink S)))
    (exit : ProgramExit) : Type 0 where
  pub others : List (List ℕ)
  pub found : List SystemCall
  pub asked : List SystemCall
  pub has : IsSpoolOfTool tool words others invoker.user old found spool
  pub later : Continues found asked
  pub launched : EndsLaunch h m r i o e tool others own_words invoker.user invoker.caller spool witnesses asked new left exit

-- the end of a tool that works on a spool: it was launched, or nothing ran
abbrev pub IsCallersEnd : {W V R A B C D E F G I O S L : Type 0} → host.Ghosts (Witnessed (UnixHost R A B C D E F G) W) →
    host.Ghosts MemoryHost → readings.Ghosts L → inputs.Ghosts (WitnessedInputs I V) → sink.Ghosts (NotedSink O) →
    sink.Ghosts (NotedSink S) → ToolName → List (List ℕ) → List (List ℕ) → Witnesses W V → List SystemCall →
    List SystemCall → HowEnded →
    Option (ProgramSystem (Witnessed (UnixHost R A B C D E F G) W) L (WitnessedInputs I V) (NotedSink O) (NotedSink S)) →
    ProgramExit → Type 0
IsCallersEnd h m r i o e tool words own_words witnesses old new (Launched invoker spool submits) left exit =
    IsLaunchedTool h m r i o e tool words own_words invoker spool witnesses old new left exit
IsCallersEnd h m r i o e tool words own_words witnesses old new UnknownCaller left exit = left ≡ None
IsCallersEnd h m r i o e tool words own_words witnesses old new Refused left exit = left ≡ None
IsCallersEnd h m r i o e tool words own_words witnesses old new Described left exit = ⊥
IsCallersEnd h m r i o e tool words own_words witnesses old new Apart left exit = ⊥

-- the end of a tool that has this program apart, or none
abbrev pub IsRequestedEnd : {W V R A B C D E F G I O S L : Type 0} → host.Ghosts (Witnessed (UnixHost R A B C D E F G) W) →
    host.Ghosts MemoryHost → readings.Ghosts L → inputs.Ghosts (WitnessedInputs I V) → sink.Ghosts (NotedSink O) →
    sink.Ghosts (NotedSink S) → Option Program → ToolName → List (List ℕ) → List (List ℕ) → Witnesses W V →
    List SystemCall → List SystemCall → HowEnded →
    Option (ProgramSystem (Witnessed (UnixHost R A B C D E F G) W) L (WitnessedInputs I V) (NotedSink O) (NotedSink S)) →
    ProgramExit → Type 0
IsRequestedEnd h m r i o e (Some program) tool words own_words witnesses old new how left exit =
    IsEndApart h m r i o e program words witnesses how left exit
IsRequestedEnd h m r i o e None tool words own_words witnesses old new how left exit =
    IsCallersEnd h m r i o e tool words own_words witnesses old new how left exit

-- How a tool ends by its words, of which its program has its own: where they ask what it prints of itself, nothing runs.
abbrev pub IsToolEndBy : {W V R A B C D E F G I O S L : Type 0} → host.Ghosts (Witnessed (UnixHost R A B C D E F G) W) →
    host.Ghosts MemoryHost → readings.Ghosts L → inputs.Ghosts (WitnessedInputs I V) → sink.Ghosts (NotedSink O) →
    sink.Ghosts (NotedSink S) → Option Description → ToolName → List (List ℕ) → List (List ℕ) → Witnesses W V →
    List SystemCall → List SystemCall → HowEnded →
    Option (ProgramSystem (Witnessed (UnixHost R A B C D E F G) W) L (WitnessedInputs I V) (NotedSink O) (NotedSink S)) →
    ProgramExit → Type 0
IsToolEndBy h m r i o e (Some asked) tool words own_words witnesses old new how left exit = (how ≡ Described) × (left ≡ None)
IsToolEndBy h m r i o e None tool words own_words witnesses old new how left exit =
    IsRequestedEnd h m r i o e (program_apart tool (has_option (codes "--next") words)) tool words own_words witnesses old new how left exit

abbrev pub IsToolEnd : {W V R A B C D E F G I O S L : Type 0} → host.Ghosts (Witnessed (UnixHost R A B C D E F G) W) →
    host.Ghosts MemoryHost → readings.Ghosts L → inputs.Ghosts (WitnessedInputs I V) → sink.Ghosts (NotedSink O) →
    sink.Ghosts (NotedSink S) → ToolName → List (List ℕ) → List (List ℕ) → Witnesses W V → List SystemCall →
    List SystemCall → HowEnded →
    Option (ProgramSystem (Witnessed (UnixHost R A B C D E F G) W) L (WitnessedInputs I V) (NotedSink O) (NotedSink S)) →
    ProgramExit → Type 0
IsToolEnd h m r i o e tool words own_words witnesses old new how left exit =
    IsToolEndBy h m r i o e (description_asked words) tool words own_words witnesses old new how left exit
