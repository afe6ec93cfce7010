use Rattle.std.proofs.Common.{◌≡◌, drop}
use Rattle.std.specs.List.{filter_map}
use Rattle.spool_faults.specs.Salvaged.{greatest}
use Rattle.start_journal.specs.Marks.{number_of_mark}
use Rattle.spool_faults.proofs.plan.greatest_mark.Given as goal

abbrev pub invariant-loop-mark : goal.invariant-loop-mark
invariant-loop-mark l = greatest l.last (filter_map number_of_mark (drop l.mark-index l.marks))
    ≡ greatest l.least (filter_map number_of_mark l.marks)
