use Rattle.std.proofs.Common.{◌∙◌, None, arith, refl, sym}
use Rattle.tool_output.specs.Outside.{clock_at}
use Rattle.cron_turn.specs.Outside.{run_at, cron_telling}
use Rattle.cron_turn.proofs.RunLemmas.{none_served, one_served, rests_before, served_all, served_short, stays_on, stays_rested, stays_same}
use Rattle.cron_turn.proofs.session_loop.make_cron_sessions.Goals as goal

pub loop-turn-init : goal.loop-turn-init
loop-turn-init g c = record {
  err_made = refl;
  stays = stays_same (run_at g.H.Host g.R.Readings g.I.Inputs g.E.Sink c.args.host.now c.args.readings.now c.args.inputs.now c.args.err.now)
      c.requires.outside;
  has = none_served (cron_telling g.H.Host g.R.Readings g.I.Inputs g.E.Sink) c.args.caller.now c.as_str-path.result.now
      (run_at g.H.Host g.R.Readings g.I.Inputs g.E.Sink c.args.host.now c.args.readings.now c.args.inputs.now c.args.err.now) None refl;
}

pub returns-in-Some-clause-works : goal.returns-in-Some-clause-works
returns-in-Some-clause-works g c =
    served_short (cron_telling g.H.Host g.R.Readings g.I.Inputs g.E.Sink) c.args.caller.now c.as_str-path.result.now
    (run_at g.H.Host g.R.Readings g.I.Inputs g.E.Sink c.args.host.now c.args.readings.now c.args.inputs.now c.args.err.now)
    c.args.request.now c.loop-turn._turn c.loop-turn.rest
    (run_at g.H.Host g.R.Readings g.I.Inputs g.E.Sink c.loop-turn.host c.loop-turn.readings c.loop-turn.inputs c.loop-turn.err)
    (run_at g.H.Host g.R.Readings g.I.Inputs g.E.Sink c.loop-turn.host c.rest_before_cron_session.new.readings
    c.loop-turn.inputs c.loop-turn.err)
    (run_at g.H.Host g.R.Readings g.I.Inputs g.E.Sink c.next_cron_session.new.host c.next_cron_session.new.readings
    c.next_cron_session.new.inputs c.next_cron_session.new.err)
    c.in-Some.cause (sym c.as_str-path.ensures) c.loop-turn-test.true c.loop-turn.invariant.has
    (rests_before g.R.Readings.tells c.loop-turn.rest
    (run_at g.H.Host g.R.Readings g.I.Inputs g.E.Sink c.loop-turn.host c.loop-turn.readings c.loop-turn.inputs c.loop-turn.err)
    (clock_at g.R.Readings c.rest_before_cron_session.new.readings) c.rest_before_cron_session.ensures)
    c.in-Some.ensures.turns

pub loop-turn-preserved : goal.loop-turn-preserved
loop-turn-preserved g c = record {
  err_made = c.next_cron_session.ensures.err_made ∙ c.loop-turn.invariant.err_made;
  stays = stays_on (run_at g.H.Host g.R.Readings g.I.Inputs g.E.Sink c.args.host.now c.args.readings.now c.args.inputs.now c.args.err.now)
      (run_at g.H.Host g.R.Readings g.I.Inputs g.E.Sink c.loop-turn.host c.rest_before_cron_session.new.readings
      c.loop-turn.inputs c.loop-turn.err)
      (run_at g.H.Host g.R.Readings g.I.Inputs g.E.Sink c.next_cron_session.new.host c.next_cron_session.new.readings
      c.next_cron_session.new.inputs c.next_cron_session.new.err)
      (stays_on (run_at g.H.Host g.R.Readings g.I.Inputs g.E.Sink c.args.host.now c.args.readings.now c.args.inputs.now c.args.err.now)
      (run_at g.H.Host g.R.Readings g.I.Inputs g.E.Sink c.loop-turn.host c.loop-turn.readings c.loop-turn.inputs c.loop-turn.err)
      (run_at g.H.Host g.R.Readings g.I.Inputs g.E.Sink c.loop-turn.host c.rest_before_cron_session.new.readings
      c.loop-turn.inputs c.loop-turn.err)
      c.loop-turn.invariant.stays
      (stays_rested g.R.Readings.tells c.loop-turn.rest
      (run_at g.H.Host g.R.Readings g.I.Inputs g.E.Sink c.loop-turn.host c.loop-turn.readings c.loop-turn.inputs c.loop-turn.err)
      (clock_at g.R.Readings c.rest_before_cron_session.new.readings) c.loop-turn.invariant.stays.left.outside
      c.rest_before_cron_session.ensures))
      c.next_cron_session.ensures.stays;
  has = one_served (cron_telling g.H.Host g.R.Readings g.I.Inputs g.E.Sink) c.args.caller.now c.as_str-path.result.now
      (run_at g.H.Host g.R.Readings g.I.Inputs g.E.Sink c.args.host.now c.args.readings.now c.args.inputs.now c.args.err.now)
      c.loop-turn._turn c.loop-turn.rest c.next_cron_session.new.rest
      (run_at g.H.Host g.R.Readings g.I.Inputs g.E.Sink c.loop-turn.host c.loop-turn.readings c.loop-turn.inputs c.loop-turn.err)
      (run_at g.H.Host g.R.Readings g.I.Inputs g.E.Sink c.loop-turn.host c.rest_before_cron_session.new.readings
      c.loop-turn.inputs c.loop-turn.err)
      (run_at g.H.Host g.R.Readings g.I.Inputs g.E.Sink c.next_cron_session.new.host c.next_cron_session.new.readings
      c.next_cron_session.new.inputs c.next_cron_session.new.err)
      c.loop-turn.invariant.has
      (rests_before g.R.Readings.tells c.loop-turn.rest
      (run_at g.H.Host g.R.Readings g.I.Inputs g.E.Sink c.loop-turn.host c.loop-turn.readings c.loop-turn.inputs c.loop-turn.err)
      (clock_at g.R.Readings c.rest_before_cron_session.new.readings) c.rest_before_cron_session.ensures)
      c.in-None.ensures.turns;
}

pub returns-clause-works : goal.returns-clause-works
returns-clause-works g c =
    served_all (cron_telling g.H.Host g.R.Readings g.I.Inputs g.E.Sink) c.args.caller.now c.as_str-path.result.now
    (run_at g.H.Host g.R.Readings g.I.Inputs g.E.Sink c.args.host.now c.args.readings.now c.args.inputs.now c.args.err.now)
    c.args.request.now c.loop-turn._turn c.loop-turn.rest
    (run_at g.H.Host g.R.Readings g.I.Inputs g.E.Sink c.loop-turn.host c.loop-turn.readings c.loop-turn.inputs c.loop-turn.err)
    (sym c.as_str-path.ensures) (omega arith) c.loop-turn.invariant.has
