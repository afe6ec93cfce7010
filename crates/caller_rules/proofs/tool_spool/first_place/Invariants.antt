use Rattle.std.proofs.Common.{List, Option, ℕ, length}
use Rattle.system_calls.specs.SystemCall.{SystemCall}
use Rattle.caller_rules.specs.ToolSpools.{FindsPlace}
use Rattle.caller_rules.proofs.tool_spool.first_place.Given as goal

-- what is found among the rest completes the search
abbrev pub invariant-loop-rest : goal.invariant-loop-rest
invariant-loop-rest g l =
    (end : List SystemCall) (found : Option (List ℕ)) → FindsPlace l.user l.rest.items (g.S.System.trace l.system) end found
    → FindsPlace l.user l.fn.places.items (g.S.System.trace l.fn.system) end found

abbrev pub decreases-loop-rest : goal.decreases-loop-rest
decreases-loop-rest g l = length l.rest.items
