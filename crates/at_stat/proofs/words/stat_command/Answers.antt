use Rattle.std.proofs.Common.{codes, ap, ◌∙◌}
use Rattle.clap.specs.Simple.{app_of}
use Rattle.at_words.specs.Commands.{flag_rule, long_flag_rule, long_rule, operands_rule, value_rule}
use Rattle.at_words.proofs.AskLemmas.{made_with, with}
use Rattle.at_stat.specs.Words.{stat_app}
use Rattle.at_stat.proofs.words.stat_command.Goals as goal

pub returns : goal.returns
unfolding stat_app
returns c =
    let wait = c.in_ok-wait.ensures ∙ ap (with (flag_rule (codes "wait") 119)) c.bare_command.ensures in
    let turns = c.in_ok-turns.ensures ∙ ap (with (long_rule (codes "turns"))) wait in
    let queue = c.in_ok-queue.ensures ∙ ap (with (value_rule (codes "queue") 113)) turns in
    let json = c.in_ok-json.ensures ∙ ap (with (long_flag_rule (codes "json"))) queue in
    made_with c.with_operands.result (app_of c.in_ok-json.json) stat_app operands_rule c.with_operands.ensures
    (ap (with operands_rule) json)
