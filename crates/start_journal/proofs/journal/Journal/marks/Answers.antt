use Rattle.std.proofs.Common.{subst, ap}
use Rattle.start_journal.specs.Marks.{AreLegalMarks}
use Rattle.start_journal.proofs.ReadLemmas.{sound_legal}
use Rattle.start_journal.proofs.journal.Journal.marks.Goals as goal

pub returns-clause-legal : goal.returns-clause-legal
returns-clause-legal c =
    subst AreLegalMarks (ap (λ read. read.marks) c.self.view_is) (sound_legal c.self.inside.marks.items c.self.invariant)
