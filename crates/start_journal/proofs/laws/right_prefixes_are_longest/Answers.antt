use Rattle.start_journal.proofs.RightLemmas as law
use Rattle.start_journal.proofs.laws.right_prefixes_are_longest.Goals as goal

pub returns : goal.returns
returns c = law.right_prefixes_are_longest
