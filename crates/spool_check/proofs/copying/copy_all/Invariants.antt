use Rattle.std.proofs.Common.{IsTrue, [], take}
use Rattle.host_calls.specs.Directory.{IsInNoImage}
use Rattle.host_calls.specs.Session.{StaysInside}
use Rattle.host_calls.specs.World.{reading}
use Rattle.spool_check.specs.inside.CopiedFiles.{EachHasCopies, IsCopyName}
use Rattle.whole_file.specs.Others.{ChangesFiles, LeavesOthers}
use Rattle.whole_file.specs.Temporary.{temporary_file}
use Rattle.std.proofs.Common.{◌≡◌}
use Rattle.spool_check.proofs.copying.copy_all.Given as goal

abbrev pub invariant-loop-name : goal.invariant-loop-name
invariant-loop-name g l = record {
  inside_from : StaysInside (g.H.Host.session l.fn.from) (g.H.Host.session l.from);
  inside_to : StaysInside (g.G.Host.session l.fn.to) (g.G.Host.session l.to);
  looks : IsTrue g.H.Host.tells → g.H.Host.world l.from ≡ g.H.Host.world l.fn.from;
  no_temp : IsTrue g.G.Host.tells → IsInNoImage (g.G.Host.world l.to).now.directory temporary_file;
  files : IsTrue g.G.Host.tells
      → ChangesFiles (LeavesOthers IsCopyName (g.G.Host.world l.fn.to).now.directory) (g.G.Host.world l.fn.to) (g.G.Host.world l.to);
  copies : IsTrue g.H.Host.tells → IsTrue g.G.Host.tells
      → EachHasCopies (reading (g.H.Host.world l.fn.from)) [] (g.G.Host.world l.fn.to).now.directory
      → EachHasCopies (reading (g.H.Host.world l.fn.from)) (take l.name-index l.names) (g.G.Host.world l.to).now.directory;
}
