use Rattle.std.proofs.Common.{codes, ap, ◌∙◌}
use Rattle.clap.specs.Simple.{app_of}
use Rattle.at_words.specs.Commands.{long_rule, value_rule}
use Rattle.at_words.proofs.AskLemmas.{made_with, with}
use Rattle.cron_turn.specs.ListingWords.{next_app}
use Rattle.cron_turn.proofs.listing_words.listing_command.Goals as goal

pub returns : goal.returns
unfolding next_app
returns c =
    let file = c.in_ok-file.ensures ∙ ap (with (value_rule (codes "file") 102)) c.bare_command.ensures in
    made_with c.with_long.result (app_of c.in_ok-file.file) next_app (long_rule (codes "next")) c.with_long.ensures
    (ap (with (long_rule (codes "next"))) file)
