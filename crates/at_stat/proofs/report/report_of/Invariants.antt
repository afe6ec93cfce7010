use Rattle.std.proofs.Common.{take}
use Rattle.at_stat.specs.Reports.{IsReport}
use Rattle.at_stat.proofs.report.report_of.Given as goal

abbrev pub invariant-loop-number : goal.invariant-loop-number
invariant-loop-number l = IsReport l.form l.zone l.store.table (take l.number-index l.numbers) l.text.items
