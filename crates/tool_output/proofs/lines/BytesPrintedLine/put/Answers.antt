use Rattle.std.proofs.Common.{List, ℕ, subst}
use Rattle.tool_output.specs.Sinks.{sink_at}
use Rattle.host_calls.specs.Sink.{Puts}
use Rattle.tool_output.proofs.PutLemmas.{put_one}
use Rattle.tool_output.proofs.lines.BytesPrintedLine.put.Goals as goal

pub returns-clause-puts : goal.returns-clause-puts
returns-clause-puts g c =
    put_one g.O.Sink.tells c.args.self.now
    (sink_at (g.O.Sink.content c.args.out.now) (g.O.Sink.outlet c.args.out.now))
    (sink_at (g.O.Sink.content c.put.new.self) (g.O.Sink.outlet c.put.new.self)) c.put.result c.put.ensures.cause
    (λ known. subst (λ (text : List ℕ). Puts text (g.O.Sink.content c.args.out.now) (g.O.Sink.content c.put.new.self) c.put.result)
    c.as_slice.ensures (c.put.ensures.put known))
