use Rattle.start_journal.proofs.JournalLemmas as law
use Rattle.start_journal.proofs.laws.journals_read_back.Goals as goal

pub returns : goal.returns
returns c = law.journals_read_back
