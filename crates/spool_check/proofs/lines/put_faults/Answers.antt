use Rattle.std.proofs.Common.{arith, length, rules, ◌≤◌}
use Rattle.tool_output.specs.Sinks.{sink_at}
use Rattle.tool_output.proofs.LineLemmas.{one_more, stopped_at_line}
use Rattle.listing_text.specs.Cause.{fault_line_of}
use Rattle.spool_check.proofs.lines.put_faults.Goals as goal

pub returns-in_err-put_fault-clause-puts : goal.returns-in_err-put_fault-clause-puts
returns-in_err-put_fault-clause-puts g c =
    stopped_at_line g.O.Sink.tells fault_line_of c.args.faults.now c.loop-fault.fault-index c.fault-item.result
    (sink_at (g.O.Sink.content c.args.out.now) (g.O.Sink.outlet c.args.out.now))
    (sink_at (g.O.Sink.content c.loop-fault.out) (g.O.Sink.outlet c.loop-fault.out))
    (sink_at (g.O.Sink.content c.put_fault.new.out) (g.O.Sink.outlet c.put_fault.new.out)) tt c.loop-fault-test.true c.fault-item.is
    c.loop-fault.invariant.puts c.in_err-put_fault.field-0.0 c.from_residual.result c.from_residual.ensures.1
    c.in_err-put_fault.ensures.puts

pub loop-fault-preserved : goal.loop-fault-preserved
loop-fault-preserved g c = record {
  made_as = search rules;
  puts =
      one_more g.O.Sink.tells fault_line_of c.args.faults.now c.loop-fault.fault-index c.fault-item.result
      (sink_at (g.O.Sink.content c.args.out.now) (g.O.Sink.outlet c.args.out.now))
      (sink_at (g.O.Sink.content c.loop-fault.out) (g.O.Sink.outlet c.loop-fault.out))
      (sink_at (g.O.Sink.content c.put_fault.new.out) (g.O.Sink.outlet c.put_fault.new.out)) tt c.loop-fault-test.true c.fault-item.is
      c.loop-fault.invariant.puts tt c.in_ok-put_fault.ensures.puts;
}
