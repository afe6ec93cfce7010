-- Why a program could not begin, as a cause (own).
use Rattle.listing_text.specs.declared.cause.Cause.{Cause}
use Rattle.listing_text.specs.declared.cause.Cause.TheVariants as cause
use Rattle.listing_text.specs.declared.refusal.Refusal.TheVariants.{Usage}
use Rattle.process_input.specs.declared.startup_error.StartupError.{StartupError}
use Rattle.process_input.specs.declared.startup_error.StartupError.TheVariants.{Memory, Words}

-- words that are no texts are no request
abbrev pub cause_of_startup : StartupError → Cause
cause_of_startup Memory = cause.Memory
cause_of_startup Words = cause.Refused Usage
