use Rattle.mail_notes.proofs.WritingLemmas.{notes_can_be_written}
use Rattle.mail_session.proofs.line.add_note_line.Goals as goal

pub write-requires : goal.write-requires
write-requires c = notes_can_be_written c.args.note.now c.requires
