use Rattle.std.proofs.Common.{◌≡◌, take}
use Rattle.start_journal.specs.Taken.{marks_of}
use Rattle.spool_faults.proofs.scan.marks_alone.Given as goal

abbrev pub invariant-loop-one : goal.invariant-loop-one
invariant-loop-one l = l.marks.items ≡ marks_of (take l.one-index l.taken)
