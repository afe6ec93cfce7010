use Rattle.memory_host.proofs.LawLemmas as law
use Rattle.memory_host.proofs.laws.faults_are_planned.Goals as goal

pub returns : goal.returns
returns c = law.faults_are_planned
