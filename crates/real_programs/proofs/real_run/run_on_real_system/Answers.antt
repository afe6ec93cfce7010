use Rattle.real_programs.proofs.ExitLemmas.{exit_of_run}
use Rattle.real_programs.proofs.real_run.run_on_real_system.Goals as goal

pub returns-clause-code : goal.returns-clause-code
returns-clause-code g c = exit_of_run _ _ _ _ _ _ _ _ _ _ _ _ c.in_ok-exit.ensures.run
