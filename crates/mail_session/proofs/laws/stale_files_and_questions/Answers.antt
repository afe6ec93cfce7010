use Rattle.mail_session.proofs.MakeLemmas.{questions_make_no_note}
use Rattle.mail_session.proofs.StaleLemmas.{stale_files_are_of_mail}
use Rattle.mail_session.proofs.laws.stale_files_and_questions.Goals as goal

pub returns : goal.returns
returns c = record { stale = stale_files_are_of_mail; questions = questions_make_no_note }
