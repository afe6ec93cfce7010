use Rattle.std.proofs.Common.{◌≡◌}
use Rattle.cron_turn.specs.Outside.{StaysSo, run_at, cron_telling}
use Rattle.cron_turn.specs.inside.NextSession.{HasMadeSessions}
use Rattle.cron_turn.proofs.session_loop.make_cron_sessions.Given as goal

abbrev pub invariant-loop-turn : goal.invariant-loop-turn
invariant-loop-turn g l = record {
  err_made : (g.E.Sink.outlet l.err).made_as ≡ (g.E.Sink.outlet l.fn.err).made_as;
  stays : StaysSo (run_at g.H.Host g.R.Readings g.I.Inputs g.E.Sink l.fn.host l.fn.readings l.fn.inputs l.fn.err)
      (run_at g.H.Host g.R.Readings g.I.Inputs g.E.Sink l.host l.readings l.inputs l.err);
  has : HasMadeSessions (cron_telling g.H.Host g.R.Readings g.I.Inputs g.E.Sink) l.caller l.path l._turn l.rest
      (run_at g.H.Host g.R.Readings g.I.Inputs g.E.Sink l.fn.host l.fn.readings l.fn.inputs l.fn.err)
      (run_at g.H.Host g.R.Readings g.I.Inputs g.E.Sink l.host l.readings l.inputs l.err);
}
