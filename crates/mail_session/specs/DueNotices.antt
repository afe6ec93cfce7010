-- What is due is noted and sent (own): how far that came, and what it leaves.
use Rattle.std.specs.Prelude.{◌≡◌, ◌++◌, [], ◌∷◌, ℕ, Bool, true, List, Option, Some, None, Result, Ok, Err, IfOk, map}
use Rattle.host_calls.specs.declared.child.Child.{Child}
use Rattle.host_calls.specs.declared.child.Handed.{Handed}
use Rattle.host_calls.specs.declared.fault.HostFault.{HostFault}
use Rattle.host_calls.specs.declared.fault.HostFault.TheVariants.{Failed}
use Rattle.host_calls.specs.Causes.{HasCause}
use Rattle.host_calls.specs.Directory.{IsInNoImage}
use Rattle.host_calls.specs.Session.{IsInside, KeepsCounts, Session}
use Rattle.host_calls.specs.World.{World}
use Rattle.daemon_turn.specs.declared.kid.Kid.{Kid}
use Rattle.daemon_turn.specs.Kids.{started_numbers}
use Rattle.mail_notes.specs.declared.note.Note.{Note}
use Rattle.mail_notes.specs.Hands.{Mailing}
use Rattle.mail_notes.specs.Lines.{notes_text}
use Rattle.mail_notes.specs.Names.{mail_temp}
use Rattle.mail_notes.specs.Notes.{IsNotesPrefix}
use Rattle.mail_notes.specs.Runs.{AreNotesMade, AreNotesStopped, HoldsNotesAlone}
use Rattle.mail_session.specs.declared.due.NoticeDue.{NoticeDue}
use Rattle.mail_session.specs.Dues.{AreDue, notes_of, sent_numbers}
use Rattle.mail_session.specs.NoticeFiles.{ReadsBeside}

-- the child of a child that came of the number's notice, if one did
abbrev pub kids_of : ℕ → Option Child → List Kid
kids_of number None = []
kids_of number (Some child) = record { number = number; child = child } ∷ []

-- The notes that were made, those that may have taken effect too where it was stopped, and the children that came.
pub record MailPart : Type 0 where
  pub made : List Note
  pub next : List Note
  pub added : List Kid

-- what is left where the notes were made, and where they were stopped
abbrev pub MailPartEnds : Mailing → List Note → MailPart → List Handed → World → World → Result (Unit {0}) HostFault → Type 0
MailPartEnds of notes part given old new (Ok done) = AreNotesMade of notes part.made given [] old new
MailPartEnds of notes part given old new (Err fault) = AreNotesStopped of notes part.made part.next given [] old new

-- these were sent, and the children are the children that came of them
pub record SendsPart (of : Mailing) (notes : List Note) (part : MailPart) (old new : World)
    (result : Result (Unit {0}) HostFault) : Type 0
  where
    pub given : List Handed
    pub numbered : started_numbers given ≡ map (λ kid. kid.number) part.added
    pub ends : MailPartEnds of notes part given old new result

-- What is due was noted after the notes of the text, or the first of it, by a file fault or an out-of-memory error, and
-- the children and the numbers of the notices that were sent were added to those before.
pub record Posts (program : List ℕ) (tells : Bool) (before after : Session) (old new : World) (due_notices : List NoticeDue)
    (was is : List ℕ)
    (kids more : List Kid) (sent gone : List ℕ) (result : Result (Unit {0}) HostFault) : Type 0 where
  pub part : MailPart
  pub inside : IsInside after
  pub counts : KeepsCounts before after
  pub cause : HasCause Failed before.file_faults after.file_faults result
  pub children : after.children ≡ before.children ++ map (λ kid. kid.child) part.added
  pub prefix : IsNotesPrefix (part.made ++ part.next) (notes_of due_notices)
  pub all : IfOk result (λ done. part.made ≡ notes_of due_notices)
  pub text : IfOk result (λ done. is ≡ was ++ notes_text part.made)
  pub kids_are : more ≡ kids ++ part.added
  pub sent_are : gone ≡ sent ++ sent_numbers part.made
  pub no_temp : tells ≡ true → IfOk result (λ done. IsInNoImage new.now.directory mail_temp)
  pub reads : tells ≡ true → IfOk result (λ done. ReadsBeside (sent_numbers part.made) old new)
  pub files : tells ≡ true → (of : Mailing) (notes : List Note) → of.program ≡ program → HoldsNotesAlone notes old.now.directory →
      was ≡ notes_text notes → AreDue of due_notices → SendsPart of notes part old new result
