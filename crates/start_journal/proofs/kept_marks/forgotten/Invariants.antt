use Rattle.std.proofs.Common.{take}
use Rattle.start_journal.specs.inside.ForgottenNumbers.{AreForgotten}
use Rattle.start_journal.proofs.kept_marks.forgotten.Given as goal

abbrev pub invariant-loop-mark : goal.invariant-loop-mark
invariant-loop-mark l = AreForgotten (take l.mark-index l.marks) l.gone
