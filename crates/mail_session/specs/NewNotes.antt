-- The jobs that are new are noted, all in one change (own).
use Rattle.std.specs.Prelude.{◌≡◌, ◌++◌, [], Bool, true, List, ℕ, Result, Ok, Err, IfOk}
use Rattle.host_calls.specs.declared.fault.HostFault.{HostFault}
use Rattle.host_calls.specs.declared.fault.HostFault.TheVariants.{Failed}
use Rattle.host_calls.specs.Directory.{IsInNoImage}
use Rattle.host_calls.specs.Session.{CallsInside, Session}
use Rattle.host_calls.specs.World.{World}
use Rattle.mail_notes.specs.declared.note.Note.{Note}
use Rattle.mail_notes.specs.declared.note.NotedJob.{NotedJob}
use Rattle.mail_notes.specs.Hands.{Mailing}
use Rattle.mail_notes.specs.Lines.{notes_text}
use Rattle.mail_notes.specs.Names.{mail_temp}
use Rattle.mail_notes.specs.Runs.{AreNotesMade, AreNotesStopped, HoldsNotesAlone}
use Rattle.mail_session.specs.News.{noting_of}
use Rattle.mail_session.specs.NoticeFiles.{ReadsBeside}

-- what is left: these notes are written, or some of them may be
abbrev pub NotingEnds : Mailing → List Note → List Note → World → World → Result (Unit {0}) HostFault → Type 0
NotingEnds of notes new_ones old new (Ok done) = AreNotesMade of notes new_ones [] [] old new
NotingEnds of notes new_ones old new (Err fault) = AreNotesStopped of notes [] new_ones [] [] old new

-- The jobs were noted after the notes, all at once; nothing was done where there are none. The text is that of all notes.
pub record Notes (tells : Bool) (before after : Session) (old new : World) (new_jobs : List NotedJob) (text : List ℕ)
    (result : Result (Unit {0}) HostFault) : Type 0 where
  pub inside : CallsInside Failed before after result
  pub no_temp : tells ≡ true → IfOk result (λ done. IsInNoImage new.now.directory mail_temp)
  pub reads : tells ≡ true → IfOk result (λ done. ReadsBeside [] old new)
  pub files : tells ≡ true → (of : Mailing) (notes : List Note) → HoldsNotesAlone notes old.now.directory →
      text ≡ notes_text (notes ++ noting_of new_jobs) → NotingEnds of notes (noting_of new_jobs) old new result
