use Rattle.std.proofs.Common.{ap}
use Rattle.clap.specs.Simple.{app_of}
use Rattle.at_words.specs.Commands.{atrm_app, operands_rule}
use Rattle.at_words.proofs.AskLemmas.{made_with, with}
use Rattle.at_words.proofs.atrm.tool_command.Goals as goal

pub returns : goal.returns
unfolding atrm_app
returns c =
    made_with c.with_operands.result (app_of c.bare_command.result) atrm_app operands_rule c.with_operands.ensures
    (ap (with operands_rule) c.bare_command.ensures)
