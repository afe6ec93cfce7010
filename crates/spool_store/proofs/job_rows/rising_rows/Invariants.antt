use Rattle.std.proofs.Common.{List}
use Rattle.start_journal.specs.declared.mark.Mark.{Mark}
use Rattle.start_journal.specs.Lifecycles.{TellLifecycles}
use Rattle.spool_store.specs.inside.JobRows.{IsRisingSoFar}
use Rattle.spool_store.specs.inside.ScannedJobs.{files_scanned}
use Rattle.spool_store.proofs.job_rows.rising_rows.Given as goal

abbrev pub invariant-loop-file : goal.invariant-loop-file
invariant-loop-file l = (marks : List Mark) → TellLifecycles marks l.lives
    → IsRisingSoFar l.last marks (files_scanned l.scanned) l.file-index l.above l.rows.items
