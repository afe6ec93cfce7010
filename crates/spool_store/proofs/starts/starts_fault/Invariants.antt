use Rattle.std.proofs.Common.{◌≡◌, List, drop}
use Rattle.spool_shows.specs.JobFiles.{JobFile}
use Rattle.spool_shows.specs.Shown.{starts_damage}
use Rattle.start_journal.specs.Lifecycles.{TellLifecycles}
use Rattle.spool_store.specs.inside.JobRows.{ListsRows}
use Rattle.spool_store.proofs.starts.starts_fault.Given as goal

abbrev pub invariant-loop-place : goal.invariant-loop-place
invariant-loop-place l = (files : List JobFile) → TellLifecycles l.marks l.lives → ListsRows l.marks files l.rows
    → starts_damage l.marks files 0 l.marks ≡ starts_damage l.marks files l.place (drop l.place l.marks)
