use Rattle.start_journal.specs.Journals.{SpellsJournal}
use Rattle.start_journal.proofs.text.journal_text.Given as goal

abbrev pub invariant-loop-count : goal.invariant-loop-count
invariant-loop-count l = SpellsJournal l.text.items l.fn.marks l.count
