use Rattle.std.proofs.Common.{◌≡◌, List, length, false}
use Rattle.tool_output.specs.Sinks.{sink_at}
use Rattle.daemon_turn.specs.Kids.{AreChildren, KeepsChildren}
use Rattle.host_calls.specs.Session.{IsOutside, KeepsCounts}
use Rattle.serving.specs.Items.{TurnItem}
use Rattle.serving.specs.Serves.{serve_at}
use Rattle.tool_output.specs.Outside.{telling}
use Rattle.serving.specs.inside.NextTurn.{HasServed}
use Rattle.serving.proofs.serve_loop.make_turns.Given as goal

abbrev pub invariant-loop-turn : goal.invariant-loop-turn
invariant-loop-turn g l = record {
  outside : IsOutside (g.H.Host.session l.host);
  children : AreChildren (g.H.Host.session l.host).children l.daemon.kids;
  kept : KeepsChildren (g.H.Host.session l.fn.host).children (g.H.Host.session l.host).children;
  counts : KeepsCounts (g.H.Host.session l.fn.host) (g.H.Host.session l.host);
  readers_made : (g.R.Readings.readers l.readings).made_as ≡ (g.R.Readings.readers l.fn.readings).made_as;
  out_made : (g.O.Sink.outlet l.out).made_as ≡ (g.O.Sink.outlet l.fn.out).made_as;
  errors_made : (g.E.Sink.outlet l.err).made_as ≡ (g.E.Sink.outlet l.fn.err).made_as;
  items : List TurnItem;
  all : length items ≡ l._turn;
  has : HasServed (telling g.H.Host.tells g.H.Host.alone g.R.Readings.tells false g.O.Sink.tells g.E.Sink.tells) l.once items l.progress
      (serve_at (g.H.Host.session l.fn.host) (g.H.Host.world l.fn.host) l.fn.daemon (g.R.Readings.answers l.fn.readings)
      (g.R.Readings.readers l.fn.readings))
      (serve_at (g.H.Host.session l.host) (g.H.Host.world l.host) l.daemon (g.R.Readings.answers l.readings)
      (g.R.Readings.readers l.readings))
      (sink_at (g.O.Sink.content l.fn.out) (g.O.Sink.outlet l.fn.out)) (sink_at (g.O.Sink.content l.out) (g.O.Sink.outlet l.out))
      (sink_at (g.E.Sink.content l.fn.err) (g.E.Sink.outlet l.fn.err)) (sink_at (g.E.Sink.content l.err) (g.E.Sink.outlet l.err));
}
