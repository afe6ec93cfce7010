use Rattle.record_lines.proofs.FileLemmas.{all_can}
use Rattle.mail_notes.specs.Lines.{SpellsNote}
use Rattle.at_mail.proofs.trim_read.all_notes_in.Goals as goal

pub returns-in-Ok-clause-spelled : goal.returns-in-Ok-clause-spelled
returns-in-Ok-clause-spelled c = all_can SpellsNote c.args.bytes.now c.in-Ok.notes.items c.in-Ok.ensures.lines.spelled
