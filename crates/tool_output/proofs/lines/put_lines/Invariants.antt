use Rattle.std.proofs.Common.{◌≡◌, take}
use Rattle.std.specs.Prelude.{Ok}
use Rattle.tool_output.specs.Sinks.{sink_at}
use Rattle.tool_output.specs.PutLines.{PutsLines, joined_lines}
use Rattle.tool_output.proofs.lines.put_lines.Given as goal

abbrev pub invariant-loop-line : goal.invariant-loop-line
invariant-loop-line g l = record {
  made_as : (g.O.Sink.outlet l.out).made_as ≡ (g.O.Sink.outlet l.fn.out).made_as;
  puts : PutsLines g.O.Sink.tells (joined_lines g.L.PrintedLine.line (take l.line-index l.lines))
      (sink_at (g.O.Sink.content l.fn.out) (g.O.Sink.outlet l.fn.out)) (sink_at (g.O.Sink.content l.out) (g.O.Sink.outlet l.out)) (Ok tt);
}
