use Rattle.tool_output.specs.Sinks.{SaysBy}
use Rattle.command_rules.proofs.LawLemmas as law
use Rattle.command_rules.proofs.laws.what_is_allowed_is_done.Goals as goal

pub returns : goal.returns
returns c = law.allowed_is_done (SaysBy c.args.tool.now)
