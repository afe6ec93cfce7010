use Rattle.std.proofs.Common.{◌≡◌, ◌∙◌, ℤ, FitsSigned, Some, ap, inl, of_z, refl, rules, subst, to_z, w64}
use Rattle.std.proofs.lemmas.Int.{to_z-of_z}
use Rattle.tool_output.specs.Outside.{input_at}
use Rattle.host_calls.specs.ClockRange.{IsClockSecond}
use Rattle.cron_session.specs.SessionOutcome.{CronsTo}
use Rattle.cron_turn.specs.Items.{CronItem, rest_after_session}
use Rattle.cron_turn.specs.Outside.{run_at, spool_at, cron_telling}
use Rattle.cron_turn.proofs.ReadLemmas.{asked, stops_reading}
use Rattle.cron_turn.proofs.RunLemmas.{turned}
use Rattle.cron_turn.proofs.session.next_cron_session.Goals as goal

pub returns-in-Err-clause-turns : goal.returns-in-Err-clause-turns
returns-in-Err-clause-turns g c =
    let fits : FitsSigned w64 c.now-now.result = search rules in
    let same : to_z w64 (of_z w64 c.now-now.result) ≡ c.now-now.result = to_z-of_z w64 c.now-now.result fits in
    inl (stops_reading (cron_telling g.H.Host g.R.Readings g.I.Inputs g.E.Sink) c.args.path.now
    (run_at g.H.Host g.R.Readings g.I.Inputs g.E.Sink c.args.host.now c.args.readings.now c.args.inputs.now c.args.err.now)
    (run_at g.H.Host g.R.Readings g.I.Inputs g.E.Sink c.args.host.now c.now-now.new.self c.read_entries.new.inputs c.args.err.now)
    (record {
      now = c.now-now.result;
      range = subst IsClockSecond same (c.is_clock_second.ensures.fact.0 c.if-not-is_clock_second.false);
      clock = record { known = c.now-now.ensures.known; readers = c.now-now.ensures.same };
      input = asked g.I.Inputs.tells c.args.path.now (input_at g.I.Inputs c.args.inputs.now) (input_at g.I.Inputs c.read_entries.new.inputs)
          c.in-Err.stopped c.in-Err.ensures.reads;
      unmade = record { spool = refl; said = refl };
    })
    c.in-Err.stopped c.in-Err.ensures.reads)

pub returns-clause-turns : goal.returns-clause-turns
returns-clause-turns g c =
    let fits : FitsSigned w64 c.now-now.result = search rules in
    let same : to_z w64 (of_z w64 c.now-now.result) ≡ c.now-now.result = to_z-of_z w64 c.now-now.result fits in
    let item : CronItem = record {
      now = c.now-now.result;
      bytes = c.in-Ok.ensures.reads.bytes;
      entries = c.in-Ok.entries;
      end = c.cron_session-report.result.end;
      numbers = c.cron_session-report.result.numbers;
    } in
    turned (cron_telling g.H.Host g.R.Readings g.I.Inputs g.E.Sink) c.args.caller.now c.args.path.now
    (Some c.rest_after_session.result) item
    (run_at g.H.Host g.R.Readings g.I.Inputs g.E.Sink c.args.host.now c.args.readings.now c.args.inputs.now c.args.err.now)
    (run_at g.H.Host g.R.Readings g.I.Inputs g.E.Sink c.cron_session-report.new.host c.now-now.new.self
    c.read_entries.new.inputs c.say_cron_end.new.err)
    c.say_cron_end.result
    (record {
      now = subst IsClockSecond same (c.is_clock_second.ensures.fact.0 c.if-not-is_clock_second.false);
      clock = record { known = c.now-now.ensures.known; readers = c.now-now.ensures.same };
      input = c.in-Ok.ensures.reads.reads;
      few = c.in-Ok.ensures.reads.of_text.0;
      spelled = c.in-Ok.ensures.reads.of_text.1;
      session = subst (λ (second : ℤ). CronsTo g.H.Host.tells g.H.Host.alone
          (record { context = c.args.caller.now.context; zone = c.args.caller.now.zone; entries = c.in-Ok.entries; now = second })
          (spool_at g.H.Host c.args.host.now) (spool_at g.H.Host c.cron_session-report.new.host) c.cron_session-report.result.end
          c.cron_session-report.result.numbers)
          same c.cron_session-report.ensures;
    })
    c.say_cron_end.ensures.says
    (ap Some (c.rest_after_session.ensures ∙ ap (rest_after_session c.cron_session-report.result.end) same))
