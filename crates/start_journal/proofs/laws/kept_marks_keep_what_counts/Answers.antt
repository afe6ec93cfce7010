use Rattle.start_journal.proofs.MarkLemmas as law
use Rattle.start_journal.proofs.laws.kept_marks_keep_what_counts.Goals as goal

pub returns : goal.returns
returns c = law.kept_marks_keep_what_counts
