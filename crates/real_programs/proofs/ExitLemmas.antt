-- The exit of a program, by its run.
use Rattle.std.proofs.Common.{◌≡◌, ◌∙◌, ℕ, Bool, true, false, List, ap, subst, sym}
use Rattle.host_calls.specs.declared.host.Host as host
use Rattle.host_calls.specs.declared.inputs.Inputs as inputs
use Rattle.host_calls.specs.declared.readings.Readings as readings
use Rattle.host_calls.specs.declared.sink.Sink as sink
use Rattle.listing_text.specs.Cause.{status_of}
use Rattle.listing_text.specs.declared.status.Status.{Status}
use Rattle.memory_host.specs.declared.memory_host.MemoryHost.{MemoryHost}
use Rattle.real_programs.specs.CheckRuns.{ChecksInto}
use Rattle.real_programs.specs.declared.program.Program.{Program}
use Rattle.real_programs.specs.declared.program.Program.TheVariants.{Commands, CommandsThenNoting, Stat, Post, Trim, PostAfterTrim, Cron, Next, Account, Check}
use Rattle.real_programs.specs.declared.program_exit.ProgramExit.{ProgramExit}
use Rattle.real_programs.specs.declared.system.ProgramSystem.{ProgramSystem}
use Rattle.real_programs.specs.declared.target.SalvageTarget.{SalvageTarget}
use Rattle.real_programs.specs.declared.target.SalvageTarget.TheVariants.{Directory, Memory}
use Rattle.real_programs.specs.PostRuns.{PostsUnless}
use Rattle.real_programs.specs.ProgramRuns.{IsExitOf, IsExitOfCause, IsProgramRun, exit_of}
use Rattle.tool_output.specs.declared.caller.Caller.{Caller}

-- a status that is that of its cause
of_status : (exit : ProgramExit) (status : Status) → exit ≡ exit_of status → status ≡ status_of status.cause → IsExitOfCause exit
of_status exit status is code = (status.cause, is ∙ ap exit_of code)

module _ {D C I O E : Type 0} (h : host.Ghosts D) (m : host.Ghosts MemoryHost) (r : readings.Ghosts C) (i : inputs.Ghosts I)
    (o : sink.Ghosts O) (e : sink.Ghosts E) (words : List (List ℕ)) (caller : Caller) (old new : ProgramSystem D C I O E) where
  -- that of the trim, or that of the sessions
  posts_code : (is_stopped : Bool) (between : ProgramSystem D C I O E) (trimmed status : Status)
      → PostsUnless is_stopped h r e words between trimmed new status → trimmed ≡ status_of trimmed.cause → status ≡ status_of status.cause
  posts_code true between trimmed status posts code =
      subst (λ (status : Status). status ≡ status_of status.cause) (sym posts.1) code
  posts_code false between trimmed status posts code = posts.code

  -- that of the checker, whatever its target
  check_code : (to into : SalvageTarget D) (status : Status) → ChecksInto h m o e words old to new into status
      → status ≡ status_of status.cause
  check_code (Directory to) (Directory into) status checks = checks.code
  check_code (Directory to) (Memory into) status checks = absurd checks
  check_code (Memory to) (Directory into) status checks = absurd checks
  check_code (Memory to) (Memory into) status checks = checks.code

  -- the exit is one of the program
  pub exit_of_run : (program : Program) (exit : ProgramExit) → IsProgramRun h m r i o e program words caller old new exit
      → IsExitOf program exit
  exit_of_run Commands exit ran = of_status exit ran.0 ran.1 ran.2.code
  exit_of_run CommandsThenNoting exit ran = of_status exit ran.0 ran.1 ran.2.commands.code
  exit_of_run Stat exit ran = λ cause is. ap (λ (exit : ProgramExit). exit.code) ran.1
      ∙ ran.2.code cause (ap (λ (exit : ProgramExit). exit.cause) (sym ran.1) ∙ is)
  exit_of_run Post exit ran = of_status exit ran.0 ran.1 ran.2.code
  exit_of_run Trim exit ran = of_status exit ran.0 ran.1 ran.2.code
  exit_of_run PostAfterTrim exit ran = of_status exit ran.0 ran.1
      (posts_code _ ran.2.between ran.2.trimmed ran.0 ran.2.posts ran.2.trim.code)
  exit_of_run Cron exit ran = of_status exit ran.0 ran.1 ran.2.code
  exit_of_run Next exit ran = of_status exit ran.0 ran.1 ran.2.code
  exit_of_run Account exit ran = of_status exit ran.0 ran.1 ran.2.code
  exit_of_run Check exit ran = of_status exit ran.0 ran.1 (check_code old.target new.target ran.0 ran.2)
