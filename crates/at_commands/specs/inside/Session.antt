-- Why the session of a command ended without being done (own).
use Rattle.listing_text.specs.declared.cause.Cause.{Cause}
use Rattle.listing_text.specs.declared.cause.Cause.TheVariants.{Refused, FileFault, Busy, Memory, Damaged}
use Rattle.tool_output.specs.declared.command_error.CommandError.{CommandError}

-- the output did not fail, nor did the inputs
abbrev pub IsSpoolCause : Cause → Type 0
IsSpoolCause FileFault = Unit {0}
IsSpoolCause Memory = Unit {0}
IsSpoolCause Busy = Unit {0}
IsSpoolCause (Refused refusal) = Unit {0}
IsSpoolCause (Damaged damage) = Unit {0}
IsSpoolCause _ = ⊥

-- the command was stopped by one of these
abbrev pub IsNoOutput : CommandError → Type 0
IsNoOutput stopped = IsSpoolCause stopped.cause
