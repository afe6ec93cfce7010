use Rattle.std.proofs.Common.{◌∙◌, FitsSigned, rules, w64}
use Rattle.std.proofs.lemmas.Int.{to_z-of_z}
use Rattle.memory_host.specs.MemorySink.{content_so_far}
use Rattle.at_day.proofs.SpellingLemmas.{given_report}
use Rattle.at_day.proofs.single_event.give_command.Goals as goal

pub returns-clause-given : goal.returns-clause-given
returns-clause-given c =
    let fits : FitsSigned w64 c.args.now = search rules in
    given_report c.args.words.now c.args.caller.now c.args.input.now _ c.args.now c.in_ok-status.status
    (content_so_far c.run_command.new.out) (content_so_far c.run_command.new.err) c.in_ok-out.out c.in_ok-err.err
    c.args.host.now c.run_command.new.host (to_z-of_z w64 c.args.now fits) (c.in_ok-out.ensures ∙ c.content.ensures)
    (c.in_ok-err.ensures ∙ c.content-2.ensures) c.in_ok-status.ensures.given
