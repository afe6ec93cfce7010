use Rattle.std.proofs.Common.{◌≡◌, ◌++◌, [], take}
use Rattle.std.specs.List.{filter_map}
use Rattle.spool_faults.specs.inside.FoundFiles.{file_first}
use Rattle.spool_faults.specs.inside.SavedParts.{name_unless}
use Rattle.spool_faults.proofs.plan.names_left.Given as goal

abbrev pub invariant-loop-file : goal.invariant-loop-file
invariant-loop-file l = l.names.items ≡ [] ++ filter_map (λ file. name_unless l.decided (file_first file)) (take l.file-index l.files)
