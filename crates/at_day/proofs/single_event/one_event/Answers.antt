use Rattle.std.proofs.Common.{FitsSigned, rules, w64}
use Rattle.std.proofs.lemmas.Int.{to_z-of_z}
use Rattle.at_day.proofs.HappeningLemmas.{command_unreported}
use Rattle.at_day.proofs.single_event.one_event.Goals as goal

pub returns-in-Command-clause-unreported : goal.returns-in-Command-clause-unreported
returns-in-Command-clause-unreported c =
    let fits : FitsSigned w64 c.in-Command.now = search rules in
    rw c.in-Command.is
    (command_unreported c.in-Command.words c.in-Command.caller c.in-Command.input _ c.in-Command.now
    c.args.host.now c.give_command.new.host c.args.daemon.now c.give_command.result (to_z-of_z w64 c.in-Command.now fits)
    c.give_command.ensures.unreported)
