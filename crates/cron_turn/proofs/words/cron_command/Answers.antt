use Rattle.std.proofs.Common.{codes, ap, ◌∙◌}
use Rattle.clap.specs.Simple.{app_of}
use Rattle.at_words.specs.Commands.{long_rule, value_rule}
use Rattle.at_words.proofs.AskLemmas.{made_with, with}
use Rattle.cron_turn.specs.Words.{cron_app}
use Rattle.cron_turn.proofs.words.cron_command.Goals as goal

pub returns : goal.returns
unfolding cron_app
returns c =
    let file = c.in_ok-file.ensures ∙ ap (with (value_rule (codes "file") 102)) c.bare_command.ensures in
    made_with c.with_long.result (app_of c.in_ok-file.file) cron_app (long_rule (codes "turns")) c.with_long.ensures
    (ap (with (long_rule (codes "turns"))) file)
