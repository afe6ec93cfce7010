use Rattle.std.proofs.Common.{◌≡◌, ◌++◌, map}
use Rattle.at_account.specs.inside.OwnerCounts.{owner_line}
use Rattle.at_account.proofs.tally.lines_of.Given as goal

abbrev pub invariant-loop-user : goal.invariant-loop-user
invariant-loop-user l = l.lines.items ++ map owner_line l.user-iterator ≡ map owner_line l.tally.entries
