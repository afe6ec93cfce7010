-- How one notice is sent (own): its file is placed, then the notes that say so, and then it is sent.
use Rattle.std.specs.Prelude.{◌≡◌, ◌⊎◌, ◌++◌, [], ◌∷◌, ℕ, Bool, true, List, Option, Result, Ok, Err, IfOk, OnOk, is_some, option_to_list}
use Rattle.host_calls.specs.declared.child.Child.{Child}
use Rattle.host_calls.specs.declared.child.Handed.{Handed}
use Rattle.host_calls.specs.declared.fault.HostFault.{HostFault}
use Rattle.host_calls.specs.declared.fault.HostFault.TheVariants.{Failed}
use Rattle.host_calls.specs.Causes.{HasCause}
use Rattle.host_calls.specs.Directory.{IsImage, IsInNoImage}
use Rattle.host_calls.specs.Session.{IsInside, KeepsCounts, Session}
use Rattle.host_calls.specs.World.{HandsOver, LeavesOnly, World}
use Rattle.whole_file.specs.Others.{ChangesFiles}
use Rattle.whole_file.specs.Placement.{IsPlaced, IsPlacing}
use Rattle.mail_notes.specs.declared.note.Note.{Note}
use Rattle.mail_notes.specs.declared.note.Note.TheVariants.{Sent}
use Rattle.mail_notes.specs.Hands.{IsHandedFor, IsNoticeOf, Mailing, notice_nice}
use Rattle.mail_notes.specs.Lines.{notes_text}
use Rattle.mail_notes.specs.Names.{mail_temp, notice_file}
use Rattle.mail_notes.specs.Runs.{AreNotesMade, AreNotesStopped, HoldsNotesAlone}
use Rattle.mail_session.specs.NoticeFiles.{ReadsBeside}

-- a file of mail was placed, or not
pub record Places (target bytes : List ℕ) (old new : World) (result : Result (Unit {0}) HostFault) : Type 0 where
  pub changes : ChangesFiles (IsPlacing mail_temp target bytes old.now.directory) old new
  pub placed : OnOk result (IsPlaced mail_temp target bytes old.now.directory new.now.directory)

-- the children that a call adds, by what it answers
abbrev pub added_by_notice : Result (Option Child) HostFault → List Child
added_by_notice (Ok child) = option_to_list child
added_by_notice (Err fault) = []

-- the world after a notice was sent, by the answer
abbrev pub HandedAs : ℕ → World → World → Result (Option Child) HostFault → Type 0
HandedAs number old new (Ok child) = HandsOver number (notice_file number) notice_nice (is_some child) old.now new.now
HandedAs number old new (Err fault) = new ≡ old

-- the files stay, and at most one notice more is sent, in one moment
pub record IsHandingOver (number : ℕ) (old new : World) (result : Result (Option Child) HostFault) : Type 0 where
  pub outcome : HandedAs number old new result
  pub directory : new.now.directory ≡ old.now.directory
  pub asked : new.asked ≡ old.asked
  pub leaves : LeavesOnly
      (λ image handed. IsImage old.now.directory image × ((handed ≡ old.now.handed) ⊎ (handed ≡ new.now.handed)))
      old
      new

-- The notice was sent, and a child came of it or none; or an out-of-memory error is answered, and it wasn't.
pub record HandsNoticeOver (tells : Bool) (before after : Session) (old new : World) (number : ℕ)
    (result : Result (Option Child) HostFault) : Type 0 where
  pub inside : IsInside after
  pub counts : KeepsCounts before after
  pub children : after.children ≡ before.children ++ added_by_notice result
  pub no_fault : ¬ (result ≡ Err Failed)
  pub files : tells ≡ true → IsHandingOver number old new result

-- What a sending leaves: the note is written and its notice was sent, or nothing was, and the note may be written or
-- not.
abbrev pub SendingEnds : Mailing → List Note → ℕ → World → World → Result (Option Child) HostFault → Type 0
SendingEnds of notes number old new (Ok child) =
    (handed : Handed) × IsHandedFor of number handed × (handed.started ≡ is_some child)
    × AreNotesMade of notes (Sent number ∷ []) (handed ∷ []) [] old new
SendingEnds of notes number old new (Err fault) = AreNotesStopped of notes [] (Sent number ∷ []) [] [] old new

-- The notice was sent, and a child came of it or none; or a file fault or an out-of-memory error is answered, and no
-- child came.
pub record Sends (tells : Bool) (before after : Session) (old new : World) (number : ℕ) (script text : List ℕ)
    (result : Result (Option Child) HostFault) : Type 0 where
  pub inside : IsInside after
  pub counts : KeepsCounts before after
  pub children : after.children ≡ before.children ++ added_by_notice result
  pub cause : HasCause Failed before.file_faults after.file_faults result
  pub no_temp : tells ≡ true → IfOk result (λ child. IsInNoImage new.now.directory mail_temp)
  pub reads : tells ≡ true → IfOk result (λ child. ReadsBeside (number ∷ []) old new)
  pub files : tells ≡ true → (of : Mailing) (notes : List Note) → HoldsNotesAlone notes old.now.directory →
      text ≡ notes_text (notes ++ Sent number ∷ []) → IsNoticeOf of number script → SendingEnds of notes number old new result
