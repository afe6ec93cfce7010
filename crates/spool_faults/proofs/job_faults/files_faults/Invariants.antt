use Rattle.std.proofs.Common.{◌≡◌, ◌++◌, [], drop, take}
use Rattle.spool_faults.specs.Faults.{files_faults}
use Rattle.spool_faults.specs.inside.FoundFiles.{HasNumbers, files_found, numbers_from}
use Rattle.spool_faults.proofs.job_faults.files_faults.Given as goal

abbrev pub invariant-loop-file : goal.invariant-loop-file
invariant-loop-file l = record {
  numbers : HasNumbers (numbers_from [] (files_found (take l.file-index l.files))) l.before;
  faults : l.faults.items ++ files_faults l.bound (numbers_from [] (files_found (take l.file-index l.files)))
      (files_found (drop l.file-index l.files))
      ≡ l.fn.faults.items ++ files_faults l.bound [] (files_found l.files);
}
