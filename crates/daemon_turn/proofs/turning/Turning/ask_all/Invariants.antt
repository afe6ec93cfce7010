use Rattle.host_calls.specs.Session.{StaysInside}
use Rattle.daemon_turn.proofs.AskLemmas.{HasAsked}
use Rattle.daemon_turn.proofs.turning.Turning.ask_all.Given as goal

abbrev pub invariant-loop-kid : goal.invariant-loop-kid
invariant-loop-kid g l = record {
  inside : StaysInside (g.H.Host.session l.fn.host) (g.H.Host.session l.host);
  has : HasAsked g.H.Host.tells l.kid-items l.kid-index l.known.items (g.H.Host.world l.fn.host) (g.H.Host.world l.host);
}
