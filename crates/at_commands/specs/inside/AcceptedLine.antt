-- What is said to the caller, by the answer of the call that says it (own).
use Rattle.std.specs.Prelude.{◌≡◌, ℕ, Bool, true, List, Result, Ok, Err}
use Rattle.host_calls.specs.declared.fault.SinkFault.{SinkFault}
use Rattle.host_calls.specs.declared.fault.SinkFault.TheVariants.{Failed, Memory as NoMemory}
use Rattle.listing_text.specs.declared.cause.Cause.{Cause}
use Rattle.listing_text.specs.declared.cause.Cause.TheVariants.{Done, OutputFault, Memory}
use Rattle.tool_output.specs.Sinks.{IsCut, IsSilent, PutsSome, SinkAt}

-- the accepted line was put, by the answer of its put
abbrev pub SaysAccepted : (List ℕ → Type 0) → SinkAt → SinkAt → Result (Unit {0}) SinkFault → Type 0
SaysAccepted IsLine old new (Ok value) = PutsSome IsLine old new
SaysAccepted IsLine old new (Err Failed) = (line : List ℕ) × IsLine line × IsCut line old new
SaysAccepted IsLine old new (Err NoMemory) = IsSilent old new

-- and by the cause that is answered for it
abbrev pub Accepts : Bool → (List ℕ → Type 0) → SinkAt → SinkAt → Cause → Type 0
Accepts tells IsLine old new Done = tells ≡ true → PutsSome IsLine old new
Accepts tells IsLine old new OutputFault = tells ≡ true → (line : List ℕ) × IsLine line × IsCut line old new
Accepts tells IsLine old new Memory = tells ≡ true → IsSilent old new
Accepts tells IsLine old new _ = ⊥
