use Rattle.tool_output.specs.Sinks.{SaysBy}
use Rattle.command_rules.proofs.LawLemmas as law
use Rattle.command_rules.proofs.laws.refusals_change_nothing.Goals as goal

pub returns : goal.returns
returns c =
    record { shown = law.refusals_change_nothing (SaysBy c.args.tool.now); steps = law.refused_has_no_step (SaysBy c.args.tool.now) }
