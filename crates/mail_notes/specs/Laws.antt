-- What holds of all notes, and how runs of notes join.
use Rattle.std.specs.Prelude.{◌≡◌, ◌↔◌, ◌++◌, [], ℕ, List, Some}
use Rattle.host_calls.specs.declared.child.Asked.{Asked}
use Rattle.host_calls.specs.declared.child.Handed.{Handed}
use Rattle.host_calls.specs.World.{World}
use Rattle.record_lines.specs.Lines.{AreSpelled, CanBeSpelled}
use Rattle.step_runs.specs.Current.{IsSpoolName}
use Rattle.mail_notes.specs.declared.note.Note.{Note}
use Rattle.mail_notes.specs.Hands.{Mailing}
use Rattle.mail_notes.specs.Lines.{Fits, IsNote, SpellsNote, notes_text}
use Rattle.mail_notes.specs.Names.{IsMailName, notice_file, notice_number}
use Rattle.mail_notes.specs.Runs.{AreNotesMade, AreNotesStopped, HoldsNotesAlone}

-- a note that can be in a line has one without a newline
abbrev pub NotesCanBeWritten : Type 0
NotesCanBeWritten = (note : Note) → IsNote note → CanBeSpelled SpellsNote note

-- a file with the lines of notes is their text
abbrev pub NoteFilesAreTexts : Type 0
NoteFilesAreTexts = (bytes : List ℕ) (notes : List Note) → AreSpelled SpellsNote bytes notes → bytes ≡ notes_text notes

-- where the directory is ready, no notes were made
abbrev pub NoNotesAreMade : Type 0
NoNotesAreMade = (of : Mailing) (notes : List Note) (world : World) → HoldsNotesAlone notes world.now.directory →
    AreNotesMade of notes [] [] [] world world

-- notes that were made, and those that were made after them, are made
abbrev pub NotesAreMadeAfter : Type 0
NotesAreMadeAfter = (of : Mailing) (notes first later : List Note) (given more : List Handed) (questions others : List Asked)
    (start middle end : World) →
    AreNotesMade of notes first given questions start middle → AreNotesMade of (notes ++ first) later more others middle end →
    AreNotesMade of notes (first ++ later) (given ++ more) (questions ++ others) start end

-- notes that were stopped after those that were made are stopped
abbrev pub NotesAreStoppedAfter : Type 0
NotesAreStoppedAfter = (of : Mailing) (notes first later next : List Note) (given more : List Handed)
    (questions others : List Asked) (start middle end : World) →
    AreNotesMade of notes first given questions start middle →
    AreNotesStopped of (notes ++ first) later next more others middle end →
    AreNotesStopped of notes (first ++ later) next (given ++ more) (questions ++ others) start end

-- a name is that of a notice exactly where its number is read of it
abbrev pub NoticeNumbersAreRead : Type 0
NoticeNumbersAreRead = (name : List ℕ) (number : ℕ) →
    (notice_number name ≡ Some number) ↔ (Fits number × (name ≡ notice_file number))

-- the store keeps nothing under a name of mail
abbrev pub MailIsNoneOfTheStores : Type 0
MailIsNoneOfTheStores = (name : List ℕ) → IsMailName name → ¬ (IsSpoolName name)
