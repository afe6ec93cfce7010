use Rattle.std.proofs.Common.{◌≡◌, ◌++◌, List, take}
use Rattle.spool_faults.specs.Faults.{starts_faults}
use Rattle.spool_faults.specs.inside.FoundFiles.{AreDecidedNumbers, AreQueues}
use Rattle.spool_shows.specs.JobFiles.{JobFile}
use Rattle.start_journal.specs.declared.mark.Mark.{Mark}
use Rattle.spool_faults.proofs.job_faults.starts_faults.Given as goal

abbrev pub invariant-loop-one : goal.invariant-loop-one
invariant-loop-one l = (all : List Mark) (files : List JobFile) → AreDecidedNumbers all l.decided → AreQueues files l.queues
    → l.faults.items ≡ l.fn.faults.items ++ starts_faults all files (take l.one-index l.marks)
