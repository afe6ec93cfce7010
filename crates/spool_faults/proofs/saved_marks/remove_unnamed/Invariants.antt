use Rattle.std.proofs.Common.{◌≡◌, ◌++◌, take}
use Rattle.std.specs.List.{filter_map}
use Rattle.spool_faults.specs.inside.FoundFiles.{file_first}
use Rattle.spool_faults.specs.inside.SavedParts.{removal_unless}
use Rattle.start_journal.specs.Journals.{AreWritable}
use Rattle.spool_faults.proofs.saved_marks.remove_unnamed.Given as goal

abbrev pub invariant-loop-file : goal.invariant-loop-file
invariant-loop-file l = record {
  writable : AreWritable l.fn.saved.items → AreWritable l.saved.items;
  saved : l.saved.items ≡ l.fn.saved.items ++ filter_map (λ file. removal_unless l.named (file_first file)) (take l.file-index l.files);
}
