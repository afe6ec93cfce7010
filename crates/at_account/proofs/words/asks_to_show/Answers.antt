use Rattle.std.proofs.Common.{ap, sym, ◌∙◌, Ok, map, string_bytes}
use Rattle.clap.specs.Faults.{is_simple_and_free}
use Rattle.clap.proofs.OnLiterals.{clap_on_literals}
use Rattle.at_words.specs.Commands.{bare_app}
use Rattle.at_words.proofs.AskLemmas.{answers_same, asks_fails, asks_taken, no_words, with_name}
use Rattle.at_account.specs.Words.{account_app, account_asked, show_asked}
use Rattle.at_account.proofs.words.asks_to_show.Goals as goal

pub parsed-requires : goal.parsed-requires
unfolding clap_on_literals bare_app account_app
parsed-requires c = ap is_simple_and_free c.in_ok-command.ensures

pub returns-then-is_empty : goal.returns-then-is_empty
returns-then-is_empty c = sym (ap account_asked (no_words string_bytes c.args.words.now (sym c.is_empty.ensures ∙ c.if-is_empty.true)))

pub returns-in_err-matches : goal.returns-in_err-matches
returns-in_err-matches c =
    with_name account_app show_asked string_bytes c.args.words.now _ (sym c.is_empty.ensures ∙ c.if-is_empty.false)
    (asks_fails account_app show_asked (map string_bytes c.args.words.now) _ c.in_ok-command.ensures _ c.from_residual-in_err-matches.result
    c.in_err-matches.ensures c.from_residual-in_err-matches.ensures.1)

pub returns : goal.returns
returns c =
    with_name account_app show_asked string_bytes c.args.words.now (Ok c.has_flag.result) (sym c.is_empty.ensures ∙ c.if-is_empty.false)
    (asks_taken account_app show_asked (map string_bytes c.args.words.now) _ c.in_ok-command.ensures c.in_ok-matches.matches
    (Ok c.has_flag.result) c.in_ok-matches.ensures
    (answers_same _ (Ok c.has_flag.result) (ap Ok c.has_flag.ensures)))
