use Rattle.std.proofs.Common.{◌≡◌, ◌++◌, List, take}
use Rattle.std.specs.List.{filter_map}
use Rattle.spool_faults.specs.inside.FoundFiles.{AreDecidedNumbers, AreQueues}
use Rattle.spool_faults.specs.Salvaged.{given_up}
use Rattle.spool_shows.specs.JobFiles.{JobFile}
use Rattle.start_journal.specs.declared.mark.Mark.{Mark}
use Rattle.start_journal.specs.Journals.{AreWritable}
use Rattle.spool_faults.proofs.saved_marks.give_up.Given as goal

abbrev pub invariant-loop-mark : goal.invariant-loop-mark
invariant-loop-mark l = record {
  writable : AreWritable l.marks → AreWritable l.fn.saved.items → AreWritable l.saved.items;
  saved : (all : List Mark) (files : List JobFile) → AreDecidedNumbers all l.decided → AreQueues files l.queues
      → l.saved.items ≡ l.fn.saved.items ++ filter_map (given_up all files) (take l.mark-index l.marks);
}
