-- The exit status of a tool, by its program.
use Rattle.std.proofs.Common.{◌≡◌, Bool, true, false, refl, ap, subst}
use Rattle.caller_environment.specs.declared.tool_name.ToolName.{ToolName}
use Rattle.caller_environment.specs.declared.tool_name.ToolName.TheVariants.{At, Batch, Atq, Atrm, Atd, Atday, Atpost, Atcron, Ataccount, Atcheck, Atstat}
use Rattle.launcher.specs.ExitCodes.{IsExitCode, IsExitCodeOf}
use Rattle.launcher.specs.ToolRuns.{program_by}
use Rattle.real_programs.specs.declared.program.Program.{Program}
use Rattle.real_programs.specs.declared.program.Program.TheVariants.{Commands, CommandsThenNoting, Stat, Post, Trim, PostAfterTrim, Cron, Next, Account, Check}
use Rattle.real_programs.specs.declared.program_exit.ProgramExit.{ProgramExit}
use Rattle.real_programs.specs.ProgramRuns.{IsExitOf, IsExitOfCause}

-- that of a cause
code_of_exit : (exit : ProgramExit) → IsExitOfCause exit → IsExitCode exit.code
code_of_exit exit of = (of.0, ap (λ (exit : ProgramExit). exit.code) of.1)

-- that of a program other than atstat's
pub program_code : (program : Program) (exit : ProgramExit) → ¬ (program ≡ Stat) → IsExitOf program exit → IsExitCode exit.code
program_code Commands exit other of = code_of_exit exit of
program_code CommandsThenNoting exit other of = code_of_exit exit of
program_code Stat exit other of = absurd (other refl)
program_code Post exit other of = code_of_exit exit of
program_code Trim exit other of = code_of_exit exit of
program_code PostAfterTrim exit other of = code_of_exit exit of
program_code Cron exit other of = code_of_exit exit of
program_code Next exit other of = code_of_exit exit of
program_code Account exit other of = code_of_exit exit of
program_code Check exit other of = code_of_exit exit of

-- that of a tool
tool_exit_code : (tool : ToolName) (trim first : Bool) (exit : ProgramExit) → IsExitOf (program_by tool trim first) exit
    → IsExitCodeOf tool exit.code
tool_exit_code At trim true exit of other = code_of_exit exit of
tool_exit_code At trim false exit of other = code_of_exit exit of
tool_exit_code Batch trim true exit of other = code_of_exit exit of
tool_exit_code Batch trim false exit of other = code_of_exit exit of
tool_exit_code Atq trim first exit of other = code_of_exit exit of
tool_exit_code Atrm trim first exit of other = code_of_exit exit of
tool_exit_code Atd trim first exit of other = code_of_exit exit of
tool_exit_code Atday trim first exit of other = code_of_exit exit of
tool_exit_code Atpost true first exit of other = code_of_exit exit of
tool_exit_code Atpost false true exit of other = code_of_exit exit of
tool_exit_code Atpost false false exit of other = code_of_exit exit of
tool_exit_code Atcron trim first exit of other = code_of_exit exit of
tool_exit_code Ataccount trim first exit of other = code_of_exit exit of
tool_exit_code Atcheck trim first exit of other = code_of_exit exit of
tool_exit_code Atstat trim first exit of other = absurd (other refl)

-- the same of the program that is the tool's
pub tool_code : (tool : ToolName) (trim first : Bool) (program : Program) (exit : ProgramExit) → program ≡ program_by tool trim first
    → IsExitOf program exit → IsExitCodeOf tool exit.code
tool_code tool trim first program exit is of =
    tool_exit_code tool trim first exit (subst (λ (program : Program). IsExitOf program exit) is of)
