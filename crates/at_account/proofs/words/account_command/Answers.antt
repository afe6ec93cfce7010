use Rattle.std.proofs.Common.{ap, codes}
use Rattle.clap.specs.Simple.{app_of}
use Rattle.at_words.specs.Commands.{long_flag_rule}
use Rattle.at_words.proofs.AskLemmas.{made_with, with}
use Rattle.at_account.specs.Words.{account_app}
use Rattle.at_account.proofs.words.account_command.Goals as goal

pub returns : goal.returns
unfolding account_app
returns c =
    let show = long_flag_rule (codes "show") in
    made_with c.with_long_flag.result (app_of c.bare_command.result) account_app show c.with_long_flag.ensures
    (ap (with show) c.bare_command.ensures)
