use Rattle.std.proofs.Common.{◌∙◌}
use Rattle.spool_faults.specs.inside.FoundFiles.{files_found}
use Rattle.spool_shows.proofs.FilesSoFar.{prefix_read}
use Rattle.spool_faults.proofs.FoundFiles.{counted_found, other_found}
use Rattle.spool_faults.proofs.find_files.find_file.Goals as goal

pub returns-in_ok-keep_file-in-Some-clause-found : goal.returns-in_ok-keep_file-in-Some-clause-found
returns-in_ok-keep_file-in-Some-clause-found g c = λ tells marks bytes tell held.
    counted_found marks c.args.name _ _ c.in-Some.job (files_found c.args.found.now.items) (files_found c.keep_file.new.found.items)
    (c.in-Some.ensures marks tell) c.in_ok-keep_file-in-Some.ensures
    (c.from-prefix.ensures ∙ prefix_read _ bytes _ held (c.in_ok-read-in-Some.ensures.bytes tells))

pub returns-in-None-clause-found : goal.returns-in-None-clause-found
returns-in-None-clause-found g c = λ tells marks bytes tell held.
    other_found marks c.args.name _ (files_found c.args.found.now.items) (c.in-None.ensures marks tell)
