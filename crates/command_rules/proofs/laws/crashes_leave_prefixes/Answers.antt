use Rattle.tool_output.specs.Sinks.{SaysBy}
use Rattle.command_rules.proofs.LawLemmas as law
use Rattle.command_rules.proofs.laws.crashes_leave_prefixes.Goals as goal

pub returns : goal.returns
returns c = law.crashes_leave_prefixes (SaysBy c.args.tool.now)
