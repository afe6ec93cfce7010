use Rattle.std.proofs.Common.{◌≡◌, IsTrue, List, map, take}
use Rattle.std.specs.FinMap.{entries}
use Rattle.host_calls.specs.Session.{StaysInside}
use Rattle.host_calls.specs.World.{reading}
use Rattle.spool_shows.specs.JobFiles.{job_files}
use Rattle.start_journal.specs.declared.mark.Mark.{Mark}
use Rattle.spool_faults.specs.inside.FoundFiles.{AreDecidedNumbers, files_found, prefix_of}
use Rattle.spool_faults.proofs.find_files.find_files.Given as goal

abbrev pub invariant-loop-name : goal.invariant-loop-name
invariant-loop-name g l = record {
  inside : StaysInside (g.H.Host.session l.fn.host) (g.H.Host.session l.host);
  looks : IsTrue g.H.Host.tells → g.H.Host.world l.host ≡ g.H.Host.world l.fn.host;
  found : IsTrue g.H.Host.tells → (marks : List Mark) → AreDecidedNumbers marks l.decided
      → files_found l.found.items ≡ job_files marks (map prefix_of (take l.name-index (entries (reading (g.H.Host.world l.fn.host)))));
}
