-- A line spells one note at most, and eight digits one number, as lemmas of other crates need it.
use Rattle.std.proofs.Common.{◌≡◌, ◌<◌, ◌^◌, ℕ}
use Rattle.text_reader.specs.HexDigits.{digits_of}
use Rattle.record_lines.proofs.FileLemmas.{SpellsOne}
use Rattle.mail_notes.specs.inside.Spelling.{one_note, one_of_eight}
use Rattle.mail_notes.specs.Lines.{SpellsNote}

pub one_note_a_line : SpellsOne SpellsNote
one_note_a_line = one_note

pub one_number : (first second : ℕ) → first < 16 ^ 8 → second < 16 ^ 8 → digits_of first ≡ digits_of second → first ≡ second
one_number = one_of_eight
