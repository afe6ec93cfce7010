use Rattle.std.proofs.Common.{ap, sym, ◌∙◌, map, string_bytes}
use Rattle.clap.specs.Faults.{is_simple_and_free}
use Rattle.clap.proofs.OnLiterals.{clap_on_literals}
use Rattle.at_words.specs.Commands.{bare_app}
use Rattle.at_words.proofs.AskLemmas.{asks_fails, asks_taken, no_words, with_name}
use Rattle.cron_turn.specs.Words.{cron_app, cron_asked, crontab_asked}
use Rattle.cron_turn.proofs.words.cron_request.Goals as goal

pub parsed-requires : goal.parsed-requires
unfolding clap_on_literals bare_app cron_app
parsed-requires c = ap is_simple_and_free c.in_ok-command.ensures

pub returns-then-is_empty : goal.returns-then-is_empty
returns-then-is_empty c = sym (ap cron_asked (no_words string_bytes c.args.words.now (sym c.is_empty.ensures ∙ c.if-is_empty.true)))

pub returns-in_err-matches : goal.returns-in_err-matches
returns-in_err-matches c =
    with_name cron_app crontab_asked string_bytes c.args.words.now _ (sym c.is_empty.ensures ∙ c.if-is_empty.false)
    (asks_fails cron_app crontab_asked (map string_bytes c.args.words.now) _ c.in_ok-command.ensures _ c.from_residual-in_err-matches.result
    c.in_err-matches.ensures c.from_residual-in_err-matches.ensures.1)

pub returns : goal.returns
returns c =
    with_name cron_app crontab_asked string_bytes c.args.words.now c.cron_request_of.result (sym c.is_empty.ensures ∙ c.if-is_empty.false)
    (asks_taken cron_app crontab_asked (map string_bytes c.args.words.now) _ c.in_ok-command.ensures c.in_ok-matches.matches
    c.cron_request_of.result c.in_ok-matches.ensures c.cron_request_of.ensures)
