use Rattle.memory_host.proofs.LawLemmas as law
use Rattle.memory_host.proofs.laws.children_answer_as_planned.Goals as goal

pub returns : goal.returns
returns c = law.children_answer_as_planned
