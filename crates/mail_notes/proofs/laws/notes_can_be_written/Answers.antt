use Rattle.mail_notes.proofs.WritingLemmas.{notes_can_be_written}
use Rattle.mail_notes.proofs.laws.notes_can_be_written.Goals as goal

pub returns : goal.returns
returns c = notes_can_be_written
