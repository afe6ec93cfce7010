use Rattle.memory_host.proofs.ReadingsLemmas as law
use Rattle.memory_host.proofs.laws.readings_keep_to_lists.Goals as goal

pub returns : goal.returns
returns c = law.readings_keep
