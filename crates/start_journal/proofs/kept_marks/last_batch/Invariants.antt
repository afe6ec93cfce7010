use Rattle.std.proofs.Common.{◌≡◌, take}
use Rattle.start_journal.specs.Marks.{last_batch}
use Rattle.start_journal.proofs.kept_marks.last_batch.Given as goal

abbrev pub invariant-loop-mark : goal.invariant-loop-mark
invariant-loop-mark l = l.last ≡ last_batch (take l.mark-index l.marks)
