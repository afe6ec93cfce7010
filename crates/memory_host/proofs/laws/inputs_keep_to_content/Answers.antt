use Rattle.memory_host.proofs.InputsLemmas as law
use Rattle.memory_host.proofs.laws.inputs_keep_to_content.Goals as goal

pub returns : goal.returns
returns c = record { content = law.inputs_have; faults = law.inputs_keep }
