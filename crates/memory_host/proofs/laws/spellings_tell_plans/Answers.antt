use Rattle.memory_host.proofs.SpellingLemmas as law
use Rattle.memory_host.proofs.laws.spellings_tell_plans.Goals as goal

pub returns : goal.returns
returns c = law.spelled-one
