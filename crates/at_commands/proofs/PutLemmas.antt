-- An acceptance that is said, by what its sink answers.
use Rattle.std.proofs.Common.{◌≡◌, Bool, List, ℕ, Result, Ok, Err, true}
use Rattle.tool_output.specs.Causes.{cause_of_put}
use Rattle.tool_output.specs.Sinks.{SinkAt}
use Rattle.host_calls.specs.declared.fault.SinkFault.{SinkFault}
use Rattle.host_calls.specs.declared.fault.SinkFault.TheVariants.{Failed, Memory as NoMemory}
use Rattle.at_commands.specs.inside.AcceptedLine.{Accepts, SaysAccepted}

pub accepted_put : (tells : Bool) (IsLine : List ℕ → Type 0) (old new : SinkAt) (put : Result (Unit {0}) SinkFault) →
    (tells ≡ true → SaysAccepted IsLine old new put) → Accepts tells IsLine old new (cause_of_put put)
accepted_put tells IsLine old new (Ok value) says = says
accepted_put tells IsLine old new (Err Failed) says = says
accepted_put tells IsLine old new (Err NoMemory) says = says
