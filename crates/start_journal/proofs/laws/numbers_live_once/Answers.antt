use Rattle.start_journal.proofs.LifeLemmas as law
use Rattle.start_journal.proofs.laws.numbers_live_once.Goals as goal

pub returns : goal.returns
returns c = law.numbers_live_once
