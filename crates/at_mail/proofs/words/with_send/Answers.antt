use Rattle.std.proofs.Common.{ap, codes}
use Rattle.clap.specs.Simple.{app_of, with_rule}
use Rattle.at_words.specs.Commands.{bare_app, long_rule}
use Rattle.at_words.proofs.AskLemmas.{made_with, with}
use Rattle.at_mail.proofs.words.with_send.Goals as goal

pub returns : goal.returns
returns c =
    let send = long_rule (codes "send") in
    made_with c.with_long.result (app_of c.bare_command.result) (with_rule (bare_app (codes "atpost")) send) send c.with_long.ensures
    (ap (with send) c.bare_command.ensures)
