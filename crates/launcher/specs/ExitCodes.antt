-- The exit statuses (own): those of causes, and those with which atstat ends by the job for which it waited.
use Rattle.std.specs.Prelude.{◌≡◌, ℕ}
use Rattle.caller_environment.specs.declared.tool_name.ToolName.{ToolName}
use Rattle.caller_environment.specs.declared.tool_name.ToolName.TheVariants.{Atstat}
use Rattle.listing_text.specs.Cause.{code_of, status_of}
use Rattle.listing_text.specs.declared.cause.Cause.{Cause}
use Rattle.listing_text.specs.declared.status.Status.{Status}

-- it is the exit status of some cause
abbrev pub IsExitCode : ℕ → Type 0
IsExitCode code = (cause : Cause) × (code ≡ code_of cause)

-- it is an exit status of the tool: of each but atstat, that of some cause
abbrev pub IsExitCodeOf : ToolName → ℕ → Type 0
IsExitCodeOf tool code = ¬ (tool ≡ Atstat) → IsExitCode code

-- it is the status of some cause
abbrev pub IsStatus : Status → Type 0
IsStatus status = (cause : Cause) × (status ≡ status_of cause)
