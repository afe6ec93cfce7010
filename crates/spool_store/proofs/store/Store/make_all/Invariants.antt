use Rattle.std.proofs.Common.{◌≡◌}
use Rattle.host_calls.specs.Session.{StaysInside}
use Rattle.spool_store.proofs.MakeLemmas.{HasMade}
use Rattle.spool_store.proofs.store.Store.make_all.Given as goal

-- the steps so far were made
abbrev pub invariant-loop-step : goal.invariant-loop-step
invariant-loop-step g l = record {
  inside : StaysInside (g.H.Host.session l.fn.host) (g.H.Host.session l.host);
  has : HasMade g.H.Host.tells l.fn.self l.store l.steps l.step-index (g.H.Host.world l.fn.host) (g.H.Host.world l.host);
  counted : l.made ≡ l.step-index;
}
