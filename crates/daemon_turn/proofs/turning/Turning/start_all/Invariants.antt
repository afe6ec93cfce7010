use Rattle.daemon_turn.proofs.LaunchLemmas.{HasLaunched}
use Rattle.daemon_turn.proofs.turning.Turning.start_all.Given as goal

abbrev pub invariant-loop-number : goal.invariant-loop-number
invariant-loop-number g l = record {
  has : HasLaunched g.H.Host.tells (g.H.Host.session l.fn.host) (g.H.Host.session l.host) (g.H.Host.world l.fn.host) (g.H.Host.world l.host)
      l.fn.store l.store l.numbers l.number-index l.fn.second l.fn.self.kids.items l.self.kids.items
      l.fn.self.steps.items l.self.steps.items;
}
