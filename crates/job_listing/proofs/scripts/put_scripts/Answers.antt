use Rattle.std.proofs.Common.{rules, subst, sym}
use Rattle.host_calls.specs.World.{World}
use Rattle.step_runs.specs.Current.{IsCurrent}
use Rattle.tool_output.specs.Sinks.{sink_at}
use Rattle.job_listing.proofs.ScriptLemmas.{none_put, one_more, stopped_by_mark}
use Rattle.job_listing.proofs.scripts.put_scripts.Goals as goal

pub loop-number-init : goal.loop-number-init
loop-number-init g c = record {
  inside = search rules;
  made_as = search rules;
  puts = none_put g.H.Host.tells g.O.Sink.tells c.args.store.now (g.H.Host.world c.args.host.now)
      (sink_at (g.O.Sink.content c.args.out.now) (g.O.Sink.outlet c.args.out.now)) tt;
}

pub put_script-requires-clause-inside : goal.put_script-requires-clause-inside
put_script-requires-clause-inside g c = c.loop-number.invariant.inside.inside

pub put_script-requires-clause-current : goal.put_script-requires-clause-current
put_script-requires-clause-current g c = λ known. (
  (c.requires.current known).0,
  subst (λ (world : World). IsCurrent c.args.store.now world.now.directory (c.requires.current known).0)
      (sym (c.loop-number.invariant.puts.looks known)) (c.requires.current known).1,
)

pub returns-in_err-put_script-clause-puts : goal.returns-in_err-put_script-clause-puts
returns-in_err-put_script-clause-puts g c =
    stopped_by_mark g.H.Host.tells g.O.Sink.tells c.args.store.now c.args.numbers.now c.loop-number.number-index 0
    (g.H.Host.world c.args.host.now) (g.H.Host.world c.loop-number.host) (g.H.Host.world c.put_script.new.host)
    (sink_at (g.O.Sink.content c.args.out.now) (g.O.Sink.outlet c.args.out.now))
    (sink_at (g.O.Sink.content c.loop-number.out) (g.O.Sink.outlet c.loop-number.out))
    (sink_at (g.O.Sink.content c.put_script.new.out) (g.O.Sink.outlet c.put_script.new.out)) tt c.loop-number-test.true
    c.loop-number.invariant.puts c.in_err-put_script.field-0.0 c.from_residual.result c.from_residual.ensures.1
    c.in_err-put_script.ensures.puts

pub loop-number-preserved : goal.loop-number-preserved
loop-number-preserved g c = record {
  inside = search rules;
  made_as = search rules;
  puts =
      one_more g.H.Host.tells g.O.Sink.tells c.args.store.now c.args.numbers.now c.loop-number.number-index 0
      (g.H.Host.world c.args.host.now) (g.H.Host.world c.loop-number.host) (g.H.Host.world c.put_script.new.host)
      (sink_at (g.O.Sink.content c.args.out.now) (g.O.Sink.outlet c.args.out.now))
      (sink_at (g.O.Sink.content c.loop-number.out) (g.O.Sink.outlet c.loop-number.out))
      (sink_at (g.O.Sink.content c.put_script.new.out) (g.O.Sink.outlet c.put_script.new.out)) tt c.loop-number-test.true
      c.loop-number.invariant.puts tt c.in_ok-put_script.ensures.puts;
}
