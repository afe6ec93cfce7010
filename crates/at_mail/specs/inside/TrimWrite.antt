-- How the notes that stay are written (own).
use Rattle.std.specs.Prelude.{◌≡◌, ◌⊎◌, List}
use Rattle.host_calls.specs.World.{World}
use Rattle.spool_model.specs.JobTable.{JobTable}
use Rattle.whole_file.specs.Placement.{IsPlaced}
use Rattle.mail_notes.specs.declared.note.Note.{Note}
use Rattle.mail_notes.specs.Lines.{notes_text}
use Rattle.mail_notes.specs.Names.{mail_file, mail_temp}
use Rattle.at_mail.specs.TrimmedNotes.{trimmed}

-- the text of those that stay was placed, or all stay and nothing was done
abbrev pub IsTrimWritten : JobTable → List Note → World → World → Type 0
IsTrimWritten table notes old new =
    IsPlaced mail_temp mail_file (notes_text (trimmed table notes)) old.now.directory new.now.directory
    ⊎ ((new ≡ old) × (trimmed table notes ≡ notes))
