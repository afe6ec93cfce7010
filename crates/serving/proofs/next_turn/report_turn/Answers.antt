use Rattle.tool_output.specs.Sinks.{sink_at}
use Rattle.serving.specs.Lines.{step_lines}
use Rattle.serving.proofs.SinkLemmas.{more_for}
use Rattle.serving.proofs.next_turn.report_turn.Goals as goal

pub returns-clause-prints : goal.returns-clause-prints
returns-clause-prints g c =
    more_for g.O.Sink.tells (step_lines c.args.report.now.steps) c.args.output_failed.now c.print_unless.new.output_failed c.say_end.result
    (sink_at (g.O.Sink.content c.args.out.now) (g.O.Sink.outlet c.args.out.now))
    (sink_at (g.O.Sink.content c.print_unless.new.out) (g.O.Sink.outlet c.print_unless.new.out))
    (rw c.as_slice.ensures at c.if-not-print_unless.ensures.prints)
