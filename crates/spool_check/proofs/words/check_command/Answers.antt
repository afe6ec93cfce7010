use Rattle.std.proofs.Common.{ap, codes}
use Rattle.clap.specs.Simple.{app_of}
use Rattle.at_words.specs.Commands.{long_flag_rule}
use Rattle.at_words.proofs.AskLemmas.{made_with, with}
use Rattle.spool_check.specs.Words.{check_app}
use Rattle.spool_check.proofs.words.check_command.Goals as goal

pub returns : goal.returns
unfolding check_app
returns c =
    let salvage = long_flag_rule (codes "salvage") in
    made_with c.with_long_flag.result (app_of c.bare_command.result) check_app salvage c.with_long_flag.ensures
    (ap (with salvage) c.bare_command.ensures)
