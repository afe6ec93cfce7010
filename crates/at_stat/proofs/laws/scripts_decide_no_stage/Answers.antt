use Rattle.at_stat.proofs.StageLemmas.{stage_of-without_scripts}
use Rattle.at_stat.proofs.laws.scripts_decide_no_stage.Goals as goal

pub returns : goal.returns
returns c = stage_of-without_scripts
