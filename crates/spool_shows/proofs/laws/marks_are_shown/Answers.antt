use Rattle.spool_shows.proofs.StepLaws.{legal_steps_add_legal_marks, marks_are_shown as law}
use Rattle.spool_shows.proofs.laws.marks_are_shown.Goals as goal

pub returns-clause-shown : goal.returns-clause-shown
returns-clause-shown c = law

pub returns-clause-legal : goal.returns-clause-legal
returns-clause-legal c = legal_steps_add_legal_marks
