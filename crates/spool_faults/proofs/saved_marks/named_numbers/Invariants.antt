use Rattle.std.proofs.Common.{take}
use Rattle.spool_faults.specs.inside.SavedParts.{AreNamedNumbers}
use Rattle.spool_faults.proofs.saved_marks.named_numbers.Given as goal

abbrev pub invariant-loop-mark : goal.invariant-loop-mark
invariant-loop-mark l = AreNamedNumbers (take l.mark-index l.marks) l.named
