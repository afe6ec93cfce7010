use Rattle.std.proofs.Common.{ap, sym, ◌∙◌, map, string_bytes}
use Rattle.clap.specs.Faults.{is_simple_and_free}
use Rattle.clap.proofs.OnLiterals.{clap_on_literals}
use Rattle.at_words.specs.Commands.{bare_app}
use Rattle.at_words.proofs.AskLemmas.{asks_fails, asks_taken, no_words, with_name}
use Rattle.at_stat.specs.Words.{stat_matches_asked, stat_app, stat_asked}
use Rattle.at_stat.proofs.words.stat_request.Goals as goal

pub parsed-requires : goal.parsed-requires
unfolding clap_on_literals bare_app stat_app
parsed-requires c = ap is_simple_and_free c.in_ok-command.ensures

pub returns-then-is_empty-clause-asked : goal.returns-then-is_empty-clause-asked
returns-then-is_empty-clause-asked c =
    sym (ap stat_asked (no_words string_bytes c.args.words.now (sym c.is_empty.ensures ∙ c.if-is_empty.true)))

pub returns-in_err-matches-clause-asked : goal.returns-in_err-matches-clause-asked
returns-in_err-matches-clause-asked c =
    with_name stat_app stat_matches_asked string_bytes c.args.words.now _ (sym c.is_empty.ensures ∙ c.if-is_empty.false)
    (asks_fails stat_app stat_matches_asked (map string_bytes c.args.words.now) _ c.in_ok-command.ensures _
    c.from_residual-in_err-matches.result c.in_err-matches.ensures c.from_residual-in_err-matches.ensures.1)

pub returns-clause-asked : goal.returns-clause-asked
returns-clause-asked c =
    with_name stat_app stat_matches_asked string_bytes c.args.words.now c.stat_request_of.result
    (sym c.is_empty.ensures ∙ c.if-is_empty.false)
    (asks_taken stat_app stat_matches_asked (map string_bytes c.args.words.now) _ c.in_ok-command.ensures c.in_ok-matches.matches
    c.stat_request_of.result c.in_ok-matches.ensures c.stat_request_of.ensures.asked)
