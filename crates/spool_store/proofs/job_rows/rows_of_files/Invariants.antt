use Rattle.std.proofs.Common.{List}
use Rattle.start_journal.specs.declared.mark.Mark.{Mark}
use Rattle.start_journal.specs.Lifecycles.{TellLifecycles}
use Rattle.spool_store.specs.inside.JobRows.{IsScannedSoFar}
use Rattle.spool_store.specs.inside.ScannedJobs.{files_scanned}
use Rattle.spool_store.proofs.job_rows.rows_of_files.Given as goal

abbrev pub invariant-loop-file : goal.invariant-loop-file
invariant-loop-file l = (marks : List Mark) → TellLifecycles marks l.lives
    → IsScannedSoFar l.last marks (files_scanned l.scanned) l.file-index l.rows.entries
