use Rattle.serving.proofs.ExampleLemmas.{small_servings}
use Rattle.serving.proofs.laws.small_servings.Goals as goal

pub returns : goal.returns
returns c = small_servings
