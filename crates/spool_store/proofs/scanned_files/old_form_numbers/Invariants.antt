use Rattle.std.proofs.Common.{◌≡◌, take}
use Rattle.spool_store.specs.inside.ScannedJobs.{files_scanned, old_form_numbers}
use Rattle.spool_store.proofs.scanned_files.old_form_numbers.Given as goal

abbrev pub invariant-loop-file : goal.invariant-loop-file
invariant-loop-file l = l.numbers.items ≡ old_form_numbers (take l.file-index (files_scanned l.scanned))
