use Rattle.std.proofs.Common.{codes, ap}
use Rattle.clap.specs.Simple.{app_of}
use Rattle.at_words.specs.Commands.{atday_app, long_rule}
use Rattle.at_words.proofs.AskLemmas.{made_with, with}
use Rattle.at_words.proofs.atday.tool_command.Goals as goal

pub returns : goal.returns
unfolding atday_app
returns c =
    made_with c.with_long.result (app_of c.bare_command.result) atday_app (long_rule (codes "make")) c.with_long.ensures
    (ap (with (long_rule (codes "make"))) c.bare_command.ensures)
