use Rattle.std.proofs.Common.{ap, codes}
use Rattle.clap.specs.Simple.{app_of}
use Rattle.at_words.specs.Commands.{long_rule}
use Rattle.at_words.proofs.AskLemmas.{made_with, with}
use Rattle.at_mail.specs.Words.{post_app}
use Rattle.at_mail.proofs.words.mail_command.Goals as goal

pub returns : goal.returns
unfolding post_app
returns c =
    let turns = long_rule (codes "turns") in
    made_with c.with_long.result (app_of c.in_ok-send.send) post_app turns c.with_long.ensures (ap (with turns) c.in_ok-send.ensures)
