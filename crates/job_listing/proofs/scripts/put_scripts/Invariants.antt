use Rattle.std.proofs.Common.{◌≡◌, take}
use Rattle.std.specs.Prelude.{Ok}
use Rattle.host_calls.specs.Session.{StaysInside}
use Rattle.tool_output.specs.Sinks.{sink_at}
use Rattle.job_listing.specs.Scripts.{PutsScripts}
use Rattle.job_listing.proofs.scripts.put_scripts.Given as goal

abbrev pub invariant-loop-number : goal.invariant-loop-number
invariant-loop-number g l = record {
  inside : StaysInside (g.H.Host.session l.fn.host) (g.H.Host.session l.host);
  made_as : (g.O.Sink.outlet l.out).made_as ≡ (g.O.Sink.outlet l.fn.out).made_as;
  puts : PutsScripts g.H.Host.tells g.O.Sink.tells l.store (take l.number-index l.numbers)
      (g.H.Host.world l.fn.host) (g.H.Host.world l.host)
      (sink_at (g.O.Sink.content l.fn.out) (g.O.Sink.outlet l.fn.out)) (sink_at (g.O.Sink.content l.out) (g.O.Sink.outlet l.out)) (Ok tt);
}
