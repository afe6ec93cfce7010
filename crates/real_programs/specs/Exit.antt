-- The exit status of a process (own).
use Rattle.std.specs.Prelude.{ℕ, Result, Ok, Err}
use Rattle.listing_text.specs.Cause.{code_of}
use Rattle.process_input.specs.StartupError.{cause_of_startup}
use Rattle.process_input.specs.declared.startup_error.StartupError.{StartupError}
use Rattle.real_programs.specs.declared.real_run.RealRun.{RealRun}

-- the code with which the program ended, or that of why it could not begin
abbrev pub code_of_end : {W V : Type 0} → Result (RealRun W V) StartupError → ℕ
code_of_end (Ok ran) = ran.exit.code
code_of_end (Err why) = code_of (cause_of_startup why)
