-- How a program runs over what it is lent, by which program it is (own).
use Rattle.std.specs.Prelude.{◌≡◌, ℕ, List, Some}
use Rattle.at_stat.specs.declared.status.StatExit.{StatExit}
use Rattle.host_calls.specs.declared.host.Host as host
use Rattle.host_calls.specs.declared.inputs.Inputs as inputs
use Rattle.host_calls.specs.declared.readings.Readings as readings
use Rattle.host_calls.specs.declared.sink.Sink as sink
use Rattle.listing_text.specs.Cause.{code_of, status_of}
use Rattle.listing_text.specs.declared.cause.Cause.{Cause}
use Rattle.listing_text.specs.declared.status.Status.{Status}
use Rattle.memory_host.specs.declared.memory_host.MemoryHost.{MemoryHost}
use Rattle.real_programs.specs.CheckRuns.{IsCheckRun}
use Rattle.real_programs.specs.declared.program.Program.{Program}
use Rattle.real_programs.specs.declared.program.Program.TheVariants.{Commands, CommandsThenNoting, Stat, Post, Trim, PostAfterTrim, Cron, Next, Account, Check}
use Rattle.real_programs.specs.declared.program_exit.ProgramExit.{ProgramExit}
use Rattle.real_programs.specs.declared.system.ProgramSystem.{ProgramSystem}
use Rattle.real_programs.specs.NotingRuns.{IsCommandsThenNoting}
use Rattle.real_programs.specs.PostRuns.{IsPostAfterTrim}
use Rattle.real_programs.specs.Runs.{IsAccountRun, IsCommandsRun, IsCronRun, IsNextRun, IsPostRun, IsStatRun, IsTrimRun}
use Rattle.tool_output.specs.declared.caller.Caller.{Caller}

-- the exit of a program that ended with this status
abbrev pub exit_of : Status → ProgramExit
exit_of status = record { code = status.code; cause = Some status.cause }

-- the exit of atstat
abbrev pub stat_exit_of : StatExit → ProgramExit
stat_exit_of exit = record { code = exit.code; cause = exit.cause }

-- it ended with a status of which this holds
abbrev pub EndsWith : (Status → Type 0) → ProgramExit → Type 0
EndsWith Holds exit = (status : Status) × (exit ≡ exit_of status) × Holds status

-- atstat ended with an exit of which this holds
abbrev pub StatEndsWith : (StatExit → Type 0) → ProgramExit → Type 0
StatEndsWith Holds exit = (status : StatExit) × (exit ≡ stat_exit_of status) × Holds status

-- the exit has the code of its cause
abbrev pub IsExitOfCause : ProgramExit → Type 0
IsExitOfCause exit = (cause : Cause) × (exit ≡ exit_of (status_of cause))

-- atstat's has it where it has a cause
abbrev pub IsExitOfStat : ProgramExit → Type 0
IsExitOfStat exit = (cause : Cause) → exit.cause ≡ Some cause → exit.code ≡ code_of cause

-- the exit is one of the program
abbrev pub IsExitOf : Program → ProgramExit → Type 0
IsExitOf Commands exit = IsExitOfCause exit
IsExitOf CommandsThenNoting exit = IsExitOfCause exit
IsExitOf Stat exit = IsExitOfStat exit
IsExitOf Post exit = IsExitOfCause exit
IsExitOf Trim exit = IsExitOfCause exit
IsExitOf PostAfterTrim exit = IsExitOfCause exit
IsExitOf Cron exit = IsExitOfCause exit
IsExitOf Next exit = IsExitOfCause exit
IsExitOf Account exit = IsExitOfCause exit
IsExitOf Check exit = IsExitOfCause exit

-- the program ran by these words, for this caller, and ended with this exit
abbrev pub IsProgramRun : {D C I O E : Type 0} → host.Ghosts D → host.Ghosts MemoryHost → readings.Ghosts C →
    inputs.Ghosts I → sink.Ghosts O → sink.Ghosts E → Program → List (List ℕ) → Caller → ProgramSystem D C I O E →
    ProgramSystem D C I O E → ProgramExit → Type 0
IsProgramRun h m r i o e Commands words caller old new exit =
    EndsWith (λ status. IsCommandsRun h r i o e words caller old new status) exit
IsProgramRun h m r i o e CommandsThenNoting words caller old new exit =
    EndsWith (λ status. IsCommandsThenNoting h r i o e words caller old new status) exit
IsProgramRun h m r i o e Stat words caller old new exit =
    StatEndsWith (λ status. IsStatRun h r o e words caller old new status) exit
IsProgramRun h m r i o e Post words caller old new exit = EndsWith (λ status. IsPostRun h r e words old new status) exit
IsProgramRun h m r i o e Trim words caller old new exit = EndsWith (λ status. IsTrimRun h e words old new status) exit
IsProgramRun h m r i o e PostAfterTrim words caller old new exit =
    EndsWith (λ status. IsPostAfterTrim h r e words old new status) exit
IsProgramRun h m r i o e Cron words caller old new exit =
    EndsWith (λ status. IsCronRun h r i e words caller old new status) exit
IsProgramRun h m r i o e Next words caller old new exit =
    EndsWith (λ status. IsNextRun r i o e words caller old new status) exit
IsProgramRun h m r i o e Account words caller old new exit =
    EndsWith (λ status. IsAccountRun h o e words old new status) exit
IsProgramRun h m r i o e Check words caller old new exit =
    EndsWith (λ status. IsCheckRun h m o e words old new status) exit
