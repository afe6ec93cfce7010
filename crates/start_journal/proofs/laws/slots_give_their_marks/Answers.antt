use Rattle.start_journal.proofs.ByteLemmas as law
use Rattle.start_journal.proofs.laws.slots_give_their_marks.Goals as goal

pub returns : goal.returns
returns c = law.slots_give_their_marks
