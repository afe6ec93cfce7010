use Rattle.std.proofs.Common.{◌∙◌}
use Rattle.mail_notes.specs.Notes.{number_of_note}
use Rattle.mail_notes.proofs.LineLemmas.{digits_part, none_spelled}
use Rattle.mail_notes.proofs.WritingLemmas.{fits_of}
use Rattle.mail_notes.proofs.line.NoteLineRecord.read.Goals as goal

pub returns-in_err-number-clause-none : goal.returns-in_err-number-clause-none
returns-in_err-number-clause-none c = rw c.from_residual.ensures (λ note spelled.
    c.in_err-number.ensures.none (number_of_note note) (fits_of note spelled.of) (c.split_at.ensures.front
    ∙ digits_part c.args.line.now note spelled))

pub returns-clause-none : goal.returns-clause-none
returns-clause-none c =
    none_spelled c.args.line.now c.in_ok-number.number c.split_at.result.0.now c.split_at.result.1.now c.note_in.result
    c.split_at.ensures.front c.split_at.ensures.back c.in_ok-number.ensures.some c.in_ok-number.ensures.fits c.note_in.ensures.none
