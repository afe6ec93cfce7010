use Rattle.std.proofs.Common.{◌≡◌, ◌++◌, take}
use Rattle.mail_notes.specs.Lines.{notes_text}
use Rattle.mail_session.specs.News.{noting_of}
use Rattle.mail_session.proofs.note_lines.add_note_lines.Given as goal

abbrev pub invariant-loop-job : goal.invariant-loop-job
invariant-loop-job l = l.text.items ≡ l.fn.text.items ++ notes_text (noting_of (take l.job-index l.new_jobs))
