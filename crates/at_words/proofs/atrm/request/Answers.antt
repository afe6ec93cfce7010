use Rattle.std.proofs.Common.{ap, map, string_bytes}
use Rattle.clap.specs.Faults.{is_simple_and_free}
use Rattle.clap.proofs.OnLiterals.{clap_on_literals}
use Rattle.at_words.specs.Asked.{atrm_asked}
use Rattle.at_words.specs.Commands.{atrm_app, bare_app}
use Rattle.at_words.proofs.AskLemmas.{asks_fails, asks_taken}
use Rattle.at_words.proofs.atrm.request.Goals as goal

pub parsed-requires : goal.parsed-requires
unfolding clap_on_literals bare_app atrm_app
parsed-requires c = ap is_simple_and_free c.in_ok-command.ensures

pub returns-in_err-matches : goal.returns-in_err-matches
returns-in_err-matches c =
    asks_fails atrm_app atrm_asked (map string_bytes c.args.words.now) _ c.in_ok-command.ensures _ c.from_residual-in_err-matches.result
    c.in_err-matches.ensures c.from_residual-in_err-matches.ensures.1

pub returns : goal.returns
returns c =
    asks_taken atrm_app atrm_asked (map string_bytes c.args.words.now) _ c.in_ok-command.ensures c.in_ok-matches.matches
    c.tool_request.result c.in_ok-matches.ensures c.tool_request.ensures
