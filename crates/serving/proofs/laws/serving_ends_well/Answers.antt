use Rattle.serving.proofs.LawLemmas.{serving_is_done}
use Rattle.serving.proofs.laws.serving_ends_well.Goals as goal

pub returns : goal.returns
returns c = serving_is_done
