use Rattle.tool_output.specs.Sinks.{SaysBy}
use Rattle.command_rules.proofs.LawLemmas as law
use Rattle.command_rules.proofs.laws.finished_work_is_kept.Goals as goal

pub returns : goal.returns
returns c = law.done_holds (SaysBy c.args.tool.now)
