use Rattle.spool_faults.proofs.SavedMarks.{taken_sound as law}
use Rattle.spool_faults.proofs.laws.taken_marks_are_sound.Goals as goal

pub returns : goal.returns
returns c = law
