-- How a tool is launched on its spool (own).
use Rattle.std.specs.Prelude.{◌≡◌, ◌⊎◌, ℕ, Bool, List, Option, None}
use Rattle.caller_environment.specs.declared.tool_name.ToolName.{ToolName}
use Rattle.caller_rules.specs.Admissions.{IsAdmission}
use Rattle.caller_rules.specs.declared.admission.Admission.{Admission}
use Rattle.caller_rules.specs.declared.admission.Admission.TheVariants as admission
use Rattle.caller_rules.specs.declared.spool_paths.SpoolPaths.{SpoolPaths}
use Rattle.caller_rules.specs.declared.tool_spool.ToolSpool.{ToolSpool}
use Rattle.caller_rules.specs.declared.user.CallingUser.{CallingUser}
use Rattle.host_calls.specs.declared.host.Host as host
use Rattle.host_calls.specs.declared.inputs.Inputs as inputs
use Rattle.host_calls.specs.declared.readings.Readings as readings
use Rattle.host_calls.specs.declared.sink.Sink as sink
use Rattle.launcher.specs.Submissions.{IsSubmission}
use Rattle.launcher.specs.declared.submission.SubmittedWords.{SubmittedWords}
use Rattle.launcher.specs.ToolRuns.{IsToolRun}
use Rattle.system_calls.specs.Calls.{Continues}
use Rattle.listing_text.specs.Cause.{status_of}
use Rattle.listing_text.specs.declared.cause.Cause.{Cause}
use Rattle.listing_text.specs.declared.cause.Cause.TheVariants.{Refused, FileFault, Busy}
use Rattle.listing_text.specs.declared.refusal.Refusal.TheVariants.{NotAllowed}
use Rattle.memory_host.specs.declared.memory_host.MemoryHost.{MemoryHost}
use Rattle.real_programs.specs.declared.program_exit.ProgramExit.{ProgramExit}
use Rattle.real_programs.specs.declared.system.ProgramSystem.{ProgramSystem}
use Rattle.real_programs.specs.declared.witnesses.Witnesses.{Witnesses}
use Rattle.real_programs.specs.ProgramRuns.{exit_of}
use Rattle.system_calls.specs.SystemCall.{SystemCall}
use Rattle.tool_output.specs.declared.caller.Caller.{Caller}
use Rattle.unix_host.specs.declared.host.UnixHost.{UnixHost}
use Rattle.witnessed_host.specs.declared.noted_sink.NotedSink.{NotedSink}
use Rattle.witnessed_host.specs.declared.witnessed.Witnessed.{Witnessed}
use Rattle.witnessed_host.specs.declared.witnessed_inputs.WitnessedInputs.{WitnessedInputs}

-- The tool was not admitted, and its program did not run. Its end is that of this cause.
pub record IsTurnedAway {X : Type 0} (tool : ToolName) (words : List (List ℕ)) (user : CallingUser) (spool : ToolSpool)
    (admission : Admission) (cause : Cause) (old new : List SystemCall) (left : Option X) (exit : ProgramExit) : Type 0 where
  pub submission : SubmittedWords
  pub is_submission : IsSubmission tool words submission
  pub admitted : IsAdmission tool words submission.submits user spool old new admission
  pub unrun : left ≡ None
  pub exit_is : exit ≡ exit_of (status_of cause)

-- The tool was admitted by what was asked first, and then it ran on its spool.
pub record IsLaunched {W V R A B C D E F G I O S L : Type 0} (h : host.Ghosts (Witnessed (UnixHost R A B C D E F G) W))
    (m : host.Ghosts MemoryHost) (r : readings.Ghosts L) (i : inputs.Ghosts (WitnessedInputs I V))
    (o : sink.Ghosts (NotedSink O)) (e : sink.Ghosts (NotedSink S)) (tool : ToolName) (words own_words : List (List ℕ))
    (user : CallingUser) (caller : Caller) (spool : ToolSpool) (witnesses : Witnesses W V) (old new : List SystemCall)
    (left : Option (ProgramSystem (Witnessed (UnixHost R A B C D E F G) W) L (WitnessedInputs I V) (NotedSink O) (NotedSink S)))
    (exit : ProgramExit) : Type 0 where
  pub submission : SubmittedWords
  pub paths : Option SpoolPaths
  pub is_submission : IsSubmission tool words submission
  pub asked : List SystemCall
  pub admitted : IsAdmission tool words submission.submits user spool old asked (admission.Admitted paths)
  pub later : Continues asked new
  pub ran : IsToolRun h m r i o e tool own_words caller spool.path witnesses left exit

-- How a tool ends that was launched by these words, of which the program has its own: the lists of the machine refuse it, the
-- spool is not its caller's, another daemon works on it, or it ran.
abbrev pub EndsLaunch : {W V R A B C D E F G I O S L : Type 0} → host.Ghosts (Witnessed (UnixHost R A B C D E F G) W) →
    host.Ghosts MemoryHost → readings.Ghosts L → inputs.Ghosts (WitnessedInputs I V) → sink.Ghosts (NotedSink O) →
    sink.Ghosts (NotedSink S) → ToolName → List (List ℕ) → List (List ℕ) → CallingUser → Caller → ToolSpool → Witnesses W V →
    List SystemCall → List SystemCall →
    Option (ProgramSystem (Witnessed (UnixHost R A B C D E F G) W) L (WitnessedInputs I V) (NotedSink O) (NotedSink S)) →
    ProgramExit → Type 0
EndsLaunch h m r i o e tool words own_words user caller spool witnesses old new left exit =
    IsTurnedAway tool words user spool admission.Refused (Refused NotAllowed) old new left exit
    ⊎ (IsTurnedAway tool words user spool admission.KeptOut FileFault old new left exit
    ⊎ (IsTurnedAway tool words user spool admission.Busy Busy old new left exit
    ⊎ IsLaunched h m r i o e tool words own_words user caller spool witnesses old new left exit))
