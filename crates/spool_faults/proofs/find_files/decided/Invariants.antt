use Rattle.std.proofs.Common.{take}
use Rattle.spool_faults.specs.inside.FoundFiles.{AreDecidedNumbers}
use Rattle.spool_faults.proofs.find_files.decided.Given as goal

abbrev pub invariant-loop-mark : goal.invariant-loop-mark
invariant-loop-mark l = AreDecidedNumbers (take l.mark-index l.marks) l.decided
