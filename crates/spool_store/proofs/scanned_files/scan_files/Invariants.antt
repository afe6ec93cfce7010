use Rattle.std.proofs.Common.{◌≡◌, IsTrue, List, take}
use Rattle.std.specs.FinMap.{entries}
use Rattle.host_calls.specs.Session.{StaysInside}
use Rattle.host_calls.specs.World.{reading}
use Rattle.start_journal.specs.declared.mark.Mark.{Mark}
use Rattle.start_journal.specs.Lifecycles.{TellLifecycles}
use Rattle.spool_store.specs.inside.Scan.{AreScannedFiles}
use Rattle.spool_store.specs.inside.ScannedJobs.{files_scanned}
use Rattle.spool_store.specs.inside.Tables.{AreUndecided}
use Rattle.spool_store.proofs.scanned_files.scan_files.Given as goal

abbrev pub invariant-loop-name : goal.invariant-loop-name
invariant-loop-name g l = record {
  inside : StaysInside (g.H.Host.session l.fn.host) (g.H.Host.session l.host);
  looks : IsTrue g.H.Host.tells → g.H.Host.world l.host ≡ g.H.Host.world l.fn.host;
  undecided : (marks : List Mark) → TellLifecycles marks l.lives → AreUndecided marks (files_scanned l.scanned_files.scanned.items);
  scanned_files : IsTrue g.H.Host.tells → (marks : List Mark) → TellLifecycles marks l.lives
      → AreScannedFiles marks (take l.name-index (entries (reading (g.H.Host.world l.fn.host)))) l.scanned_files;
}
