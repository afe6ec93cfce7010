use Rattle.launcher.proofs.ExitLemmas.{program_code}
use Rattle.launcher.proofs.run_tool.run_apart.Goals as goal

pub returns-clause-code : goal.returns-clause-code
returns-clause-code g c = λ other. program_code _ _ c.requires.program c.in_ok-ran.ensures.code
