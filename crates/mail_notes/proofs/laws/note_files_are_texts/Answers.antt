use Rattle.mail_notes.proofs.TextLemmas.{note_files_are_texts}
use Rattle.mail_notes.proofs.laws.note_files_are_texts.Goals as goal

pub returns : goal.returns
returns c = note_files_are_texts
