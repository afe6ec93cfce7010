use Rattle.std.proofs.Common.{codes, ap}
use Rattle.clap.specs.Simple.{app_of}
use Rattle.at_words.specs.Commands.{batch_app, value_rule}
use Rattle.at_words.proofs.AskLemmas.{made_with, with}
use Rattle.at_words.proofs.batch.tool_command.Goals as goal

pub returns : goal.returns
unfolding batch_app
returns c =
    made_with c.with_value.result (app_of c.bare_command.result) batch_app (value_rule (codes "file") 102) c.with_value.ensures
    (ap (with (value_rule (codes "file") 102)) c.bare_command.ensures)
