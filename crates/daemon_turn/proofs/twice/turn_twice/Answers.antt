use Rattle.std.proofs.Common.{ℤ, subst}
use Rattle.daemon_turn.specs.TurnOutcome.{TurnsTo}
use Rattle.daemon_turn.proofs.PlanLemmas.{clock_same}
use Rattle.daemon_turn.proofs.twice.turn_twice.Goals as goal

pub returns : goal.returns
returns g c = record {
  between =
      record { session = g.H.Host.session c.turn-one.new.host; world = g.H.Host.world c.turn-one.new.host; daemon = c.turn-one.new.self };
  begins =
      subst (λ (now : ℤ). TurnsTo g.H.Host.tells g.H.Host.alone (record { now = now; load = c.args.first.load; mode = c.args.first.mode })
      (record { session = g.H.Host.session c.args.host.now; world = g.H.Host.world c.args.host.now; daemon = c.args.daemon.now })
      (record { session = g.H.Host.session c.turn-one.new.host; world = g.H.Host.world c.turn-one.new.host; daemon = c.turn-one.new.self })
      c.turn-one.result.end c.turn-one.result.steps)
      (clock_same c.args.first.now c.requires.first) c.turn-one.ensures;
  ends =
      subst (λ (now : ℤ). TurnsTo g.H.Host.tells g.H.Host.alone (record { now = now; load = c.args.second.load; mode = c.args.second.mode })
      (record { session = g.H.Host.session c.turn-one.new.host; world = g.H.Host.world c.turn-one.new.host; daemon = c.turn-one.new.self })
      (record {
        session = g.H.Host.session c.turn-other.new.host;
        world = g.H.Host.world c.turn-other.new.host;
        daemon = c.turn-other.new.self;
      }) c.turn-other.result.end c.turn-other.result.steps)
      (clock_same c.args.second.now c.requires.second) c.turn-other.ensures;
}
