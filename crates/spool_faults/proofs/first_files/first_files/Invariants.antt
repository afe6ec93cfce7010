use Rattle.std.proofs.Common.{take}
use Rattle.std.specs.List.{filter}
use Rattle.spool_faults.specs.Faults.{has_header}
use Rattle.spool_faults.specs.inside.FoundFiles.{AreFirstFiles, files_found}
use Rattle.spool_faults.proofs.first_files.first_files.Given as goal

abbrev pub invariant-loop-file : goal.invariant-loop-file
invariant-loop-file l = AreFirstFiles (filter has_header (files_found (take l.file-index l.files))) l.firsts
