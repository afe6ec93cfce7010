-- How a tool runs over its spool (own).
use Rattle.std.specs.Prelude.{◌≡◌, ℕ, Bool, true, false, List, Option, Some, None}
use Rattle.caller_environment.specs.declared.tool_name.ToolName.{ToolName}
use Rattle.caller_environment.specs.declared.tool_name.ToolName.TheVariants.{At, Batch, Atq, Atrm, Atd, Atday, Atpost, Atcron, Ataccount, Atcheck, Atstat}
use Rattle.caller_rules.specs.DaemonStarts.{begins_trim}
use Rattle.host_calls.specs.declared.host.Host as host
use Rattle.host_calls.specs.declared.inputs.Inputs as inputs
use Rattle.host_calls.specs.declared.readings.Readings as readings
use Rattle.host_calls.specs.declared.sink.Sink as sink
use Rattle.listing_text.specs.Cause.{status_of}
use Rattle.listing_text.specs.declared.cause.Cause.TheVariants.{Busy}
use Rattle.memory_host.specs.declared.memory_host.MemoryHost.{MemoryHost}
use Rattle.real_programs.specs.declared.program.Program.{Program}
use Rattle.real_programs.specs.declared.program.Program.TheVariants.{Commands, CommandsThenNoting, Stat, Post, Trim, PostAfterTrim, Cron, Account, Check}
use Rattle.real_programs.specs.declared.program_exit.ProgramExit.{ProgramExit}
use Rattle.real_programs.specs.declared.system.ProgramSystem.{ProgramSystem}
use Rattle.real_programs.specs.declared.system_plan.SystemPlan.{SystemPlan}
use Rattle.real_programs.specs.declared.witnesses.Witnesses.{Witnesses}
use Rattle.real_programs.specs.ProgramRuns.{exit_of}
use Rattle.real_programs.specs.RealRuns.{IsRealRun}
use Rattle.tool_output.specs.declared.caller.Caller.{Caller}
use Rattle.unix_host.specs.declared.host.UnixHost.{UnixHost}
use Rattle.witnessed_host.specs.declared.noted_sink.NotedSink.{NotedSink}
use Rattle.witnessed_host.specs.declared.witnessed.Witnessed.{Witnessed}
use Rattle.witnessed_host.specs.declared.witnessed_inputs.WitnessedInputs.{WitnessedInputs}

-- the program of atpost: a trim where its words request one, sessions after a trim, or sessions
abbrev pub post_program_by : Bool → Bool → Program
post_program_by true kept = Trim
post_program_by false true = PostAfterTrim
post_program_by false false = Post

-- the program of a submission: the new jobs are noted where notes are kept
abbrev pub submission_program_by : Bool → Program
submission_program_by true = CommandsThenNoting
submission_program_by false = Commands

-- the program of a tool
abbrev pub program_by : ToolName → Bool → Bool → Program
program_by At trim kept = submission_program_by kept
program_by Batch trim kept = submission_program_by kept
program_by Atq trim kept = Commands
program_by Atrm trim kept = Commands
program_by Atd trim kept = Commands
program_by Atday trim kept = Commands
program_by Atstat trim kept = Stat
program_by Atpost trim kept = post_program_by trim kept
program_by Atcron trim kept = Cron
program_by Ataccount trim kept = Account
program_by Atcheck trim kept = Check

-- The program of the tool ran once over its spool, by these words and for this caller, over a system that was made next to
-- these witnesses. This is what it left, and its exit.
pub record HasToolRun {W V R A B C D E F G I O S L : Type 0} (h : host.Ghosts (Witnessed (UnixHost R A B C D E F G) W))
    (m : host.Ghosts MemoryHost) (r : readings.Ghosts L) (i : inputs.Ghosts (WitnessedInputs I V))
    (o : sink.Ghosts (NotedSink O)) (e : sink.Ghosts (NotedSink S)) (tool : ToolName) (words : List (List ℕ))
    (caller : Caller) (spool : List ℕ) (witnesses : Witnesses W V)
    (left : ProgramSystem (Witnessed (UnixHost R A B C D E F G) W) L (WitnessedInputs I V) (NotedSink O) (NotedSink S))
    (exit : ProgramExit) : Type 0 where
  pub kept : Bool
  pub program : Program
  pub program_is : program ≡ program_by tool (begins_trim words) kept
  pub plan : SystemPlan
  pub clock : L
  pub spool_is : plan.spool ≡ spool
  pub ran : IsRealRun h m r i o e program words caller plan clock witnesses left exit

-- the tool ran so, or another one kept it from the spool and nothing ran
abbrev pub IsToolRun : {W V R A B C D E F G I O S L : Type 0} → host.Ghosts (Witnessed (UnixHost R A B C D E F G) W) →
    host.Ghosts MemoryHost → readings.Ghosts L → inputs.Ghosts (WitnessedInputs I V) → sink.Ghosts (NotedSink O) →
    sink.Ghosts (NotedSink S) → ToolName → List (List ℕ) → Caller → List ℕ → Witnesses W V →
    Option (ProgramSystem (Witnessed (UnixHost R A B C D E F G) W) L (WitnessedInputs I V) (NotedSink O) (NotedSink S)) →
    ProgramExit → Type 0
IsToolRun h m r i o e tool words caller spool witnesses None exit = exit ≡ exit_of (status_of Busy)
IsToolRun h m r i o e tool words caller spool witnesses (Some left) exit =
    HasToolRun h m r i o e tool words caller spool witnesses left exit
