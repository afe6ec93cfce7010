use Rattle.std.proofs.Common.{◌≡◌, take}
use Rattle.std.specs.Prelude.{Ok}
use Rattle.tool_output.specs.PutLines.{PutsLines, joined_lines}
use Rattle.tool_output.specs.Sinks.{sink_at}
use Rattle.listing_text.specs.Cause.{fault_line_of}
use Rattle.spool_check.proofs.lines.put_faults.Given as goal

abbrev pub invariant-loop-fault : goal.invariant-loop-fault
invariant-loop-fault g l = record {
  made_as : (g.O.Sink.outlet l.out).made_as ≡ (g.O.Sink.outlet l.fn.out).made_as;
  puts : PutsLines g.O.Sink.tells (joined_lines fault_line_of (take l.fault-index l.faults))
      (sink_at (g.O.Sink.content l.fn.out) (g.O.Sink.outlet l.fn.out)) (sink_at (g.O.Sink.content l.out) (g.O.Sink.outlet l.out)) (Ok tt);
}
