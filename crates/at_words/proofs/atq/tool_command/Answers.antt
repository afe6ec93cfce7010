use Rattle.std.proofs.Common.{codes, ap}
use Rattle.clap.specs.Simple.{app_of}
use Rattle.at_words.specs.Commands.{atq_app, value_rule}
use Rattle.at_words.proofs.AskLemmas.{made_with, with}
use Rattle.at_words.proofs.atq.tool_command.Goals as goal

pub returns : goal.returns
unfolding atq_app
returns c =
    made_with c.with_value.result (app_of c.bare_command.result) atq_app (value_rule (codes "queue") 113) c.with_value.ensures
    (ap (with (value_rule (codes "queue") 113)) c.bare_command.ensures)
