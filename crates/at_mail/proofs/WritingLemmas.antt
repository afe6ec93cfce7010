-- How the notes that stay are written.
use Rattle.std.proofs.Common.{◌≡◌, ◌∙◌, List, length, sym, ap}
use Rattle.spool_model.specs.JobTable.{JobTable}
use Rattle.mail_notes.specs.declared.note.Note.{Note}
use Rattle.at_mail.specs.TrimmedNotes.{stays, trimmed}
use Rattle.at_mail.proofs.KeepingLemmas.{all_kept}

-- as many notes as before are all of them
pub as_many : (table : JobTable) (notes kept : List Note) → kept ≡ trimmed table notes → length kept ≡ length notes
    → trimmed table notes ≡ notes
as_many table notes kept is count = all_kept (stays table notes) notes (ap length (sym is) ∙ count)
