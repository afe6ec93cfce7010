use Rattle.std.proofs.Common.{◌≡◌, ◌++◌, drop}
use Rattle.at_account.specs.TotalLines.{counts_text}
use Rattle.at_account.proofs.lines.add_counts.Given as goal

abbrev pub invariant-loop-count : goal.invariant-loop-count
invariant-loop-count l = l.text.items ++ counts_text (drop l.count-index l.counts) ≡ l.fn.text.items ++ counts_text l.counts
