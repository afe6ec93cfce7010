use Rattle.std.proofs.Common.{IsTrue}
use Rattle.host_calls.specs.Session.{StaysInside}
use Rattle.whole_file.specs.Others.{ChangesFiles}
use Rattle.whole_file.specs.Removal.{IsClearing}
use Rattle.whole_file.proofs.ClearLemmas.{HasRemoved}
use Rattle.whole_file.proofs.clear_file.clear.Given as goal

abbrev pub invariant-loop-name : goal.invariant-loop-name
invariant-loop-name g l = record {
  inside : StaysInside (g.H.Host.session l.fn.host) (g.H.Host.session l.host);
  files : IsTrue g.H.Host.tells
      → ChangesFiles (IsClearing l.names (g.H.Host.world l.fn.host).now.directory) (g.H.Host.world l.fn.host) (g.H.Host.world l.host);
  removed : IsTrue g.H.Host.tells
      → HasRemoved l.names l.name-index (g.H.Host.world l.fn.host).now.directory (g.H.Host.world l.host).now.directory;
}
