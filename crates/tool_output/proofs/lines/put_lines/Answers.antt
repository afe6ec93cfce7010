use Rattle.std.proofs.Common.{rules}
use Rattle.tool_output.specs.Sinks.{sink_at}
use Rattle.tool_output.proofs.LineLemmas.{one_more, stopped_at_line}
use Rattle.tool_output.proofs.lines.put_lines.Goals as goal

pub returns-in_err-put-clause-puts : goal.returns-in_err-put-clause-puts
returns-in_err-put-clause-puts g c =
    stopped_at_line g.O.Sink.tells g.L.PrintedLine.line c.args.lines.now c.loop-line.line-index c.line-item.result
    (sink_at (g.O.Sink.content c.args.out.now) (g.O.Sink.outlet c.args.out.now))
    (sink_at (g.O.Sink.content c.loop-line.out) (g.O.Sink.outlet c.loop-line.out))
    (sink_at (g.O.Sink.content c.put.new.out) (g.O.Sink.outlet c.put.new.out)) tt c.loop-line-test.true c.line-item.is
    c.loop-line.invariant.puts c.in_err-put.field-0.0 c.from_residual.result c.from_residual.ensures.1
    c.in_err-put.ensures.puts

pub loop-line-preserved : goal.loop-line-preserved
loop-line-preserved g c = record {
  made_as = search rules;
  puts =
      one_more g.O.Sink.tells g.L.PrintedLine.line c.args.lines.now c.loop-line.line-index c.line-item.result
      (sink_at (g.O.Sink.content c.args.out.now) (g.O.Sink.outlet c.args.out.now))
      (sink_at (g.O.Sink.content c.loop-line.out) (g.O.Sink.outlet c.loop-line.out))
      (sink_at (g.O.Sink.content c.put.new.out) (g.O.Sink.outlet c.put.new.out)) tt c.loop-line-test.true c.line-item.is
      c.loop-line.invariant.puts tt c.in_ok-put.ensures.puts;
}
