use Rattle.start_journal.proofs.SlotLemmas as law
use Rattle.start_journal.proofs.laws.marks_have_one_spelling.Goals as goal

pub returns : goal.returns
returns c = record { marks = law.slots_spell_one_mark; slots = law.marks_have_one_slot }
