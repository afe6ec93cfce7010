-- Why the commands of a submission could not be read (own).
use Rattle.listing_text.specs.declared.cause.Cause.{Cause}
use Rattle.listing_text.specs.declared.cause.Cause.TheVariants.{InputFault, Memory}
use Rattle.tool_output.specs.declared.command_error.CommandError.{CommandError}

-- the inputs failed, or there was no memory
abbrev pub IsOfInput : Cause → Type 0
IsOfInput InputFault = Unit {0}
IsOfInput Memory = Unit {0}
IsOfInput _ = ⊥

-- the command was stopped by one of these
abbrev pub ComesOfReading : CommandError → Type 0
ComesOfReading stopped = IsOfInput stopped.cause
