use Rattle.std.proofs.Common.{◌∙◌, sym}
use Rattle.tool_output.proofs.WholeLemmas.{no_byte, no_text_put, put_failed, some_byte, whole_put}
use Rattle.tool_output.proofs.whole.put_whole.Goals as goal

pub returns-clause-output_fault : goal.returns-clause-output_fault
returns-clause-output_fault g c = put_failed c.put.result _ _ c.cause_of_put.result c.put.ensures.cause c.cause_of_put.ensures

pub returns-clause-puts : goal.returns-clause-puts
returns-clause-puts g c =
    rw c.cause_of_put.ensures
    (whole_put g.O.Sink.tells c.args.text.now (g.O.Sink.content c.args.out.now) (g.O.Sink.content c.put.new.self)
    (g.O.Sink.outlet c.args.out.now) (g.O.Sink.outlet c.put.new.self) c.put.result
    (some_byte c.args.text.now (sym c.is_empty.ensures ∙ c.if-is_empty.false)) c.put.ensures.put c.put.ensures.cause)

pub returns-then-is_empty-clause-puts : goal.returns-then-is_empty-clause-puts
returns-then-is_empty-clause-puts g c =
    no_text_put g.O.Sink.tells c.args.text.now _ (no_byte c.args.text.now (sym c.is_empty.ensures ∙ c.if-is_empty.true))
