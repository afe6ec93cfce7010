use Rattle.std.proofs.Common.{codes, ap, ◌∙◌}
use Rattle.clap.specs.Simple.{app_of}
use Rattle.at_words.specs.Commands.{atd_app, flag_rule, long_rule, value_rule}
use Rattle.at_words.proofs.AskLemmas.{made_with, with}
use Rattle.at_words.proofs.atd.tool_command.Goals as goal

pub returns : goal.returns
unfolding atd_app
returns c =
    let once = c.in_ok-once.ensures ∙ ap (with (flag_rule (codes "once") 115)) c.bare_command.ensures in
    let limit = c.in_ok-limit.ensures ∙ ap (with (value_rule (codes "limit") 108)) once in
    let interval = c.in_ok-interval.ensures ∙ ap (with (value_rule (codes "interval") 98)) limit in
    made_with c.with_long.result (app_of c.in_ok-interval.interval) atd_app (long_rule (codes "turns")) c.with_long.ensures
    (ap (with (long_rule (codes "turns"))) interval)
