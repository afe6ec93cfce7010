use Rattle.std.proofs.Common.{◌≡◌, ℤ, FitsSigned, refl, rules, w64, to_z, of_z, sym, subst, ap, ◌∙◌, Bool, true, false}
use Rattle.std.proofs.lemmas.Int.{to_z-of_z}
use Rattle.std.specs.Prelude.{IsTrue}
use Rattle.host_calls.specs.ClockRange.{IsClockSecond}
use Rattle.tool_output.specs.Sinks.{sink_at}
use Rattle.serving.specs.Items.{TurnItem, next_rest}
use Rattle.serving.specs.Lines.{step_lines}
use Rattle.serving.specs.Serves.{ServeState, serve_at}
use Rattle.tool_output.specs.Outside.{telling}
use Rattle.serving.specs.inside.NextTurn.{PrintsMore}
use Rattle.serving.proofs.ProceedLemmas.{answers_turn, ended_at_clock, ended_at_line, proceeds, served_by}
use Rattle.serving.proofs.ServeLemmas.{rests_after}
use Rattle.serving.proofs.next_turn.next_turn.Goals as goal

pub returns-then-not-is_clock_second-clause-proceeds : goal.returns-then-not-is_clock_second-clause-proceeds
returns-then-not-is_clock_second-clause-proceeds g c items first out_first err_first has turns few =
    let was : ServeState = serve_at (g.H.Host.session c.args.host.now) (g.H.Host.world c.args.host.now) c.args.daemon.now
    (g.R.Readings.answers c.args.readings.now) (g.R.Readings.readers c.args.readings.now) in
    let rested : ServeState = serve_at (g.H.Host.session c.args.host.now) (g.H.Host.world c.args.host.now) c.args.daemon.now
    (g.R.Readings.answers c.rest_before_turn.new.readings) (g.R.Readings.readers c.rest_before_turn.new.readings) in
    let after : ServeState = serve_at (g.H.Host.session c.args.host.now) (g.H.Host.world c.args.host.now) c.args.daemon.now
    (g.R.Readings.answers c.now-now.new.self) (g.R.Readings.readers c.now-now.new.self) in
    let fits : FitsSigned w64 c.now-now.result = search rules in
    let same : to_z w64 (of_z w64 c.now-now.result) ≡ c.now-now.result = to_z-of_z w64 c.now-now.result fits in
    ended_at_clock (telling g.H.Host.tells g.H.Host.alone g.R.Readings.tells false g.O.Sink.tells g.E.Sink.tells) c.args.once items
    c.args.progress.now first was
    out_first (sink_at (g.O.Sink.content c.args.out.now) (g.O.Sink.outlet c.args.out.now)) err_first
    (sink_at (g.E.Sink.content c.args.err.now) (g.E.Sink.outlet c.args.err.now))
    has after turns few (record {
      now = c.now-now.result;
      out = λ is. (let yes : IsTrue c.is_clock_second.result = c.is_clock_second.ensures.fact.1 (subst IsClockSecond (sym same) is) in cc);
      rested = rested;
      rests =
          rests_after g.R.Readings.tells c.args.once (g.H.Host.session c.args.host.now) (g.H.Host.world c.args.host.now) c.args.daemon.now
          (g.R.Readings.answers c.args.readings.now) (g.R.Readings.answers c.rest_before_turn.new.readings)
          (g.R.Readings.readers c.args.readings.now) (g.R.Readings.readers c.rest_before_turn.new.readings)
          c.args.progress.now.rest items c.args.progress.now.first has.begun has.rest c.rest_before_turn.ensures;
      known = c.now-now.ensures.known;
      readers = c.now-now.ensures.same;
      spool = refl;
    })

pub returns-then-not-report_turn-clause-proceeds : goal.returns-then-not-report_turn-clause-proceeds
returns-then-not-report_turn-clause-proceeds g c items first out_first err_first has turns few =
    let was : ServeState = serve_at (g.H.Host.session c.args.host.now) (g.H.Host.world c.args.host.now) c.args.daemon.now
    (g.R.Readings.answers c.args.readings.now) (g.R.Readings.readers c.args.readings.now) in
    let rested : ServeState = serve_at (g.H.Host.session c.args.host.now) (g.H.Host.world c.args.host.now) c.args.daemon.now
    (g.R.Readings.answers c.rest_before_turn.new.readings) (g.R.Readings.readers c.rest_before_turn.new.readings) in
    let after : ServeState = serve_at (g.H.Host.session c.turn-report.new.host) (g.H.Host.world c.turn-report.new.host)
    c.turn-report.new.self (g.R.Readings.answers c.load-load.new.self) (g.R.Readings.readers c.load-load.new.self) in
    let fits : FitsSigned w64 c.now-now.result = search rules in
    let same : to_z w64 (of_z w64 c.now-now.result) ≡ c.now-now.result = to_z-of_z w64 c.now-now.result fits in
    let range : IsClockSecond c.now-now.result =
    subst IsClockSecond same (c.is_clock_second.ensures.fact.0 c.if-not-is_clock_second.false) in
    let item : TurnItem =
    record { now = c.now-now.result; load = c.load-load.result; end = c.turn-report.result.end; steps = c.turn-report.result.steps } in
    ended_at_line (telling g.H.Host.tells g.H.Host.alone g.R.Readings.tells false g.O.Sink.tells g.E.Sink.tells) c.args.once items
    c.args.progress.now first was
    out_first (sink_at (g.O.Sink.content c.args.out.now) (g.O.Sink.outlet c.args.out.now)) err_first
    (sink_at (g.E.Sink.content c.args.err.now) (g.E.Sink.outlet c.args.err.now))
    has item rested after
    (rests_after g.R.Readings.tells c.args.once (g.H.Host.session c.args.host.now) (g.H.Host.world c.args.host.now) c.args.daemon.now
    (g.R.Readings.answers c.args.readings.now) (g.R.Readings.answers c.rest_before_turn.new.readings)
    (g.R.Readings.readers c.args.readings.now) (g.R.Readings.readers c.rest_before_turn.new.readings)
    c.args.progress.now.rest items c.args.progress.now.first has.begun has.rest c.rest_before_turn.ensures)
    (served_by (telling g.H.Host.tells g.H.Host.alone g.R.Readings.tells false g.O.Sink.tells g.E.Sink.tells) c.args.once items
    c.args.progress.now.first item rested after c.mode.result
    (to_z w64 (of_z w64 c.now-now.result)) has.begun c.mode.ensures same range
    (answers_turn g.R.Readings.tells item (g.R.Readings.answers c.rest_before_turn.new.readings) (g.R.Readings.answers c.now-now.new.self)
    (g.R.Readings.answers c.load-load.new.self)
    (g.R.Readings.readers c.rest_before_turn.new.readings) (g.R.Readings.readers c.now-now.new.self)
    (g.R.Readings.readers c.load-load.new.self)
    c.now-now.ensures.known c.now-now.ensures.same c.load-load.ensures.known c.load-load.ensures.made_as c.load-load.ensures.later
    c.load-load.ensures.cause)
    c.turn-report.ensures)
    (sink_at (g.O.Sink.content c.report_turn.new.out) (g.O.Sink.outlet c.report_turn.new.out))
    (sink_at (g.E.Sink.content c.report_turn.new.err) (g.E.Sink.outlet c.report_turn.new.err))
    c.report_turn.new.output_failed turns few c.if-not-report_turn.ensures.prints c.if-not-report_turn.ensures.says

pub returns-clause-proceeds : goal.returns-clause-proceeds
returns-clause-proceeds g c items first out_first err_first has =
    let was : ServeState = serve_at (g.H.Host.session c.args.host.now) (g.H.Host.world c.args.host.now) c.args.daemon.now
    (g.R.Readings.answers c.args.readings.now) (g.R.Readings.readers c.args.readings.now) in
    let rested : ServeState = serve_at (g.H.Host.session c.args.host.now) (g.H.Host.world c.args.host.now) c.args.daemon.now
    (g.R.Readings.answers c.rest_before_turn.new.readings) (g.R.Readings.readers c.rest_before_turn.new.readings) in
    let after : ServeState = serve_at (g.H.Host.session c.turn-report.new.host) (g.H.Host.world c.turn-report.new.host)
    c.turn-report.new.self (g.R.Readings.answers c.load-load.new.self) (g.R.Readings.readers c.load-load.new.self) in
    let fits : FitsSigned w64 c.now-now.result = search rules in
    let same : to_z w64 (of_z w64 c.now-now.result) ≡ c.now-now.result = to_z-of_z w64 c.now-now.result fits in
    let range : IsClockSecond c.now-now.result =
    subst IsClockSecond same (c.is_clock_second.ensures.fact.0 c.if-not-is_clock_second.false) in
    let item : TurnItem =
    record { now = c.now-now.result; load = c.load-load.result; end = c.turn-report.result.end; steps = c.turn-report.result.steps } in
    proceeds (telling g.H.Host.tells g.H.Host.alone g.R.Readings.tells false g.O.Sink.tells g.E.Sink.tells) c.args.once items
    c.args.progress.now first was
    out_first (sink_at (g.O.Sink.content c.args.out.now) (g.O.Sink.outlet c.args.out.now)) err_first
    (sink_at (g.E.Sink.content c.args.err.now) (g.E.Sink.outlet c.args.err.now))
    has item rested after
    (rests_after g.R.Readings.tells c.args.once (g.H.Host.session c.args.host.now) (g.H.Host.world c.args.host.now) c.args.daemon.now
    (g.R.Readings.answers c.args.readings.now) (g.R.Readings.answers c.rest_before_turn.new.readings)
    (g.R.Readings.readers c.args.readings.now) (g.R.Readings.readers c.rest_before_turn.new.readings)
    c.args.progress.now.rest items c.args.progress.now.first has.begun has.rest c.rest_before_turn.ensures)
    (served_by (telling g.H.Host.tells g.H.Host.alone g.R.Readings.tells false g.O.Sink.tells g.E.Sink.tells) c.args.once items
    c.args.progress.now.first item rested after c.mode.result
    (to_z w64 (of_z w64 c.now-now.result)) has.begun c.mode.ensures same range
    (answers_turn g.R.Readings.tells item (g.R.Readings.answers c.rest_before_turn.new.readings) (g.R.Readings.answers c.now-now.new.self)
    (g.R.Readings.answers c.load-load.new.self)
    (g.R.Readings.readers c.rest_before_turn.new.readings) (g.R.Readings.readers c.now-now.new.self)
    (g.R.Readings.readers c.load-load.new.self)
    c.now-now.ensures.known c.now-now.ensures.same c.load-load.ensures.known c.load-load.ensures.made_as c.load-load.ensures.later
    c.load-load.ensures.cause)
    c.turn-report.ensures)
    (sink_at (g.O.Sink.content c.report_turn.new.out) (g.O.Sink.outlet c.report_turn.new.out))
    (sink_at (g.E.Sink.content c.report_turn.new.err) (g.E.Sink.outlet c.report_turn.new.err))
    c.add.new.self c.add.ensures.first
    (subst (λ (output_failed : Bool).
    PrintsMore g.O.Sink.tells (step_lines c.turn-report.result.steps) c.args.progress.now.output_failed output_failed
    (sink_at (g.O.Sink.content c.args.out.now) (g.O.Sink.outlet c.args.out.now))
    (sink_at (g.O.Sink.content c.report_turn.new.out) (g.O.Sink.outlet c.report_turn.new.out)) true)
    (sym c.add.ensures.output_failed) c.if-not-report_turn.ensures.prints)
    c.if-not-report_turn.ensures.says c.outcome_after.result (c.add.ensures.rest
    ∙ ap (λ (now : ℤ). next_rest c.args.once c.turn-report.result.end now) same) (rw c.kids.ensures.kids at c.outcome_after.ensures)
