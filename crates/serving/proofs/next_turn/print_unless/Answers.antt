use Rattle.std.proofs.Common.{refl}
use Rattle.tool_output.specs.Sinks.{sink_at}
use Rattle.serving.specs.Lines.{step_lines}
use Rattle.serving.proofs.SinkLemmas.{more_cut, more_part, more_uncut}
use Rattle.serving.proofs.next_turn.print_unless.Goals as goal

pub returns-then-output_failed-clause-prints : goal.returns-then-output_failed-clause-prints
returns-then-output_failed-clause-prints g c =
    more_uncut g.O.Sink.tells (step_lines c.args.steps.now) c.args.output_failed.now c.args.output_failed.now
    (sink_at (g.O.Sink.content c.args.out.now) (g.O.Sink.outlet c.args.out.now)) c.if-output_failed.true c.if-output_failed.true

pub returns-in-Err-Failed-clause-prints : goal.returns-in-Err-Failed-clause-prints
returns-in-Err-Failed-clause-prints g c =
    more_cut g.O.Sink.tells (step_lines c.args.steps.now) c.args.output_failed.now _
    (sink_at (g.O.Sink.content c.args.out.now) (g.O.Sink.outlet c.args.out.now))
    (sink_at (g.O.Sink.content c.put_lines.new.out) (g.O.Sink.outlet c.put_lines.new.out)) c.if-output_failed.false refl
    (rw c.in-Err-Failed.field-0-is at c.in-Err-Failed.ensures.puts)

pub returns-in-Err-Memory-clause-prints : goal.returns-in-Err-Memory-clause-prints
returns-in-Err-Memory-clause-prints g c =
    more_part g.O.Sink.tells (step_lines c.args.steps.now) c.args.output_failed.now c.args.output_failed.now
    (sink_at (g.O.Sink.content c.args.out.now) (g.O.Sink.outlet c.args.out.now))
    (sink_at (g.O.Sink.content c.put_lines.new.out) (g.O.Sink.outlet c.put_lines.new.out)) c.if-output_failed.false c.if-output_failed.false
    (rw c.in-Err-Memory.field-0-is at c.in-Err-Memory.ensures.puts)
