use Rattle.std.proofs.Common.{[]}
use Rattle.std.specs.Prelude.{map}
use Rattle.std.specs.Map.Iter.{deref_pair}
use Rattle.memory_host.specs.Past.{nothing, with_files}
use Rattle.memory_host.specs.inside.Known.{IsStateKept}
use Rattle.memory_host.proofs.past.Past.open.Given as goal

abbrev pub invariant-loop-name : goal.invariant-loop-name
invariant-loop-name l = IsStateKept (with_files (map deref_pair l.yielded) nothing) l.names l.bodies []
