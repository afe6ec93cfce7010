use Rattle.std.proofs.Common.{ap, codes}
use Rattle.clap.specs.Simple.{app_of}
use Rattle.at_words.specs.Commands.{long_flag_rule}
use Rattle.at_words.proofs.AskLemmas.{made_with, with}
use Rattle.at_mail.specs.TrimWords.{trim_app}
use Rattle.at_mail.proofs.trim_words.trim_command.Goals as goal

pub returns : goal.returns
unfolding trim_app
returns c =
    let trim = long_flag_rule (codes "trim") in
    made_with c.with_long_flag.result (app_of c.bare_command.result) trim_app trim c.with_long_flag.ensures
    (ap (with trim) c.bare_command.ensures)
