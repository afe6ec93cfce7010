-- What the functions answer of which a simulated run is put together (own).
use Rattle.std.specs.Prelude.{◌≡◌, ◌≤◌, ℕ, Bool, Result, IfErr, List}
use Rattle.at_words.specs.declared.tool_request.ToolRequest.{ToolRequest}
use Rattle.at_words.specs.declared.tool_request.ToolRequest.TheVariants as request
use Rattle.tool_output.specs.Causes.{cause_of_put}
use Rattle.tool_output.specs.Sinks.{SinkAt}
use Rattle.host_calls.specs.declared.fault.SinkFault.{SinkFault}
use Rattle.at_words.specs.declared.atday.TheConstants.{MAX_EVENTS}
use Rattle.host_calls.specs.declared.store_fault.StoreFault.{StoreFault}
use Rattle.host_calls.specs.declared.store_fault.StoreFault.TheVariants as fault
use Rattle.at_day.specs.declared.counts.Counts.{Counts}
use Rattle.at_day.specs.Programs.{EndsMade}

-- what was requested is a day that can be made
abbrev pub IsDayRequest : ToolRequest → Type 0
IsDayRequest (request.Make count) = count ≤ MAX_EVENTS
IsDayRequest _ = ⊥

-- the directory was counted, or memory ran out for it
abbrev pub IsCountedOrMemory : Result Counts StoreFault → Type 0
IsCountedOrMemory counted = IfErr counted (λ why. why ≡ fault.Memory)

-- how the puts of a day end, as its cause says it
abbrev pub PutsDay : Bool → ℕ → SinkAt → SinkAt → Result (Unit {0}) SinkFault → Type 0
PutsDay tells count old new put = EndsMade tells count old new (cause_of_put put)
