use Rattle.std.proofs.Common.{codes, ap, ◌∙◌}
use Rattle.clap.specs.Simple.{app_of}
use Rattle.at_words.specs.Commands.{at_app, flag_rule, operands_rule, value_rule}
use Rattle.at_words.proofs.AskLemmas.{made_with, with}
use Rattle.at_words.proofs.at.tool_command.Goals as goal

pub returns : goal.returns
unfolding at_app
returns c =
    let mail = c.in_ok-mail.ensures ∙ ap (with (flag_rule (codes "mail") 109)) c.bare_command.ensures in
    let list = c.in_ok-list.ensures ∙ ap (with (flag_rule (codes "list") 108)) mail in
    let remove = c.in_ok-remove.ensures ∙ ap (with (flag_rule (codes "remove") 114)) list in
    let show = c.in_ok-show.ensures ∙ ap (with (flag_rule (codes "show") 99)) remove in
    let file = c.in_ok-file.ensures ∙ ap (with (value_rule (codes "file") 102)) show in
    let queue = c.in_ok-queue.ensures ∙ ap (with (value_rule (codes "queue") 113)) file in
    let time = c.in_ok-time.ensures ∙ ap (with (value_rule (codes "time") 116)) queue in
    made_with c.with_operands.result (app_of c.in_ok-time.time) at_app operands_rule c.with_operands.ensures (ap (with operands_rule) time)
