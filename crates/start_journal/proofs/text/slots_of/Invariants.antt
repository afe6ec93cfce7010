use Rattle.std.proofs.Common.{take}
use Rattle.start_journal.specs.Journals.{SpellsJournal}
use Rattle.start_journal.proofs.text.slots_of.Given as goal

abbrev pub invariant-loop-mark : goal.invariant-loop-mark
invariant-loop-mark l = SpellsJournal l.text.items (take l.mark-index l.marks) 0
