use Rattle.tool_output.proofs.WholeLemmas.{put_failed}
use Rattle.at_commands.proofs.PutLemmas.{accepted_put}
use Rattle.at_commands.proofs.submit.accept.Goals as goal

pub returns-clause-output_fault : goal.returns-clause-output_fault
returns-clause-output_fault g c =
    put_failed c.say_accepted.result _ _ c.cause_of_put.result c.say_accepted.ensures.cause c.cause_of_put.ensures

pub returns-clause-accepts : goal.returns-clause-accepts
returns-clause-accepts g c = rw c.cause_of_put.ensures (accepted_put g.E.Sink.tells _ _ _ c.say_accepted.result c.say_accepted.ensures.says)
