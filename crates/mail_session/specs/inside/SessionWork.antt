-- The work of a session of mail (own).
use Rattle.std.specs.Prelude.{◌≡◌, ◌≤◌, ◌++◌, ℕ, Bool, true, false, List, Option, None, Result, Ok, Err, Contains, IfErr, IfOk, IsSome, IsTrue, length, map}
use Rattle.std.specs.FinMap as finite
use Rattle.at_words.specs.Numbers.{are_distinct}
use Rattle.host_calls.specs.declared.child.Asked.{Asked}
use Rattle.host_calls.specs.declared.child.Ending.{Ending}
use Rattle.host_calls.specs.declared.child.Handed.{Handed}
use Rattle.host_calls.specs.declared.fault.HostFault.{HostFault}
use Rattle.host_calls.specs.declared.fault.HostFault.TheVariants.{Failed}
use Rattle.host_calls.specs.Causes.{HasCause}
use Rattle.host_calls.specs.Damages.{IfDamaged}
use Rattle.host_calls.specs.Directory.{Files, IsImage}
use Rattle.host_calls.specs.Session.{IsInside, KeepsCounts, Session}
use Rattle.host_calls.specs.World.{Moment, World, moments, reading}
use Rattle.spool_model.specs.JobTable.{JobTable}
use Rattle.host_calls.specs.declared.store_fault.StoreFault.{StoreFault}
use Rattle.host_calls.specs.declared.store_fault.StoreFault.TheVariants as fault
use Rattle.host_calls.specs.StoreFaults.{IsReadingFault}
use Rattle.whole_file.specs.Others.{LeavesOthers}
use Rattle.daemon_turn.specs.declared.kid.Kid.{Kid}
use Rattle.daemon_turn.specs.Decisions.{has_kid, questions}
use Rattle.daemon_turn.specs.Kids.{AreChildren, KeepsChildren, started_numbers}
use Rattle.host_calls.specs.SessionEnds.{end_after}
use Rattle.mail_notes.specs.declared.note.Note.{Note}
use Rattle.mail_notes.specs.Hands.{SendsNotices, Mailing}
use Rattle.mail_notes.specs.Lines.{Fits, notes_text}
use Rattle.mail_notes.specs.Names.{IsMailName, notice_file}
use Rattle.mail_notes.specs.Notes.{IsNotesPrefix}
use Rattle.mail_notes.specs.Runs.{AreNotesMade, AreNotesStopped, HoldsNotesAlone}
use Rattle.mail_session.specs.declared.plan.MailPlan.{MailPlan}
use Rattle.mail_session.specs.AskedChildren.{kids_after}
use Rattle.mail_session.specs.Dues.{AreDue, notes_of, sent_numbers}
use Rattle.mail_session.specs.SessionOutcome.{IsNothingSent, MailLeaves, PostSpool}
use Rattle.mail_session.specs.News.{noting_of}
use Rattle.mail_session.specs.NoticeFiles.{ReadsBeside, is_notice_of}
use Rattle.mail_session.specs.DueNotices.{MailPart}
use Rattle.mail_session.specs.Sessions.{HasPosted, AreNotesOpened}
use Rattle.mail_session.specs.Stale.{stale_names}

-- all notes that are made by the plan, in order
abbrev pub steps_by : MailPlan → List Note
steps_by plan = noting_of plan.new_jobs.items ++ notes_of plan.due_notices.items

-- what is left where the notes were made, and where they were stopped, with these questions asked
abbrev pub NotesMakingEnds : Mailing → List Note → MailPart → List Handed → List Asked → World → World →
    Result (Unit {0}) HostFault
    → Type 0
NotesMakingEnds of notes part given asked old new (Ok done) = AreNotesMade of notes part.made given asked old new
NotesMakingEnds of notes part given asked old new (Err fault) = AreNotesStopped of notes part.made part.next given asked old new

-- these were sent, and the children are the children that came of them
pub record GivesAsked (of : Mailing) (notes : List Note) (part : MailPart) (asked : List Asked) (old new : World)
    (result : Result (Unit {0}) HostFault) : Type 0 where
  pub given : List Handed
  pub numbered : started_numbers given ≡ map (λ kid. kid.number) part.added
  pub ends : NotesMakingEnds of notes part given asked old new result

-- What of every host is known of the steps of a session: how far they came, and which children and numbers there are.
pub record MakesNotes (before after : Session) (plan : MailPlan) (kids left : List Kid) (sent gone : List ℕ) (part : MailPart)
    (answers : List (Option Ending)) (result : Result (Unit {0}) HostFault) : Type 0 where
  pub inside : IsInside after
  pub counts : KeepsCounts before after
  pub cause : HasCause Failed before.file_faults after.file_faults result
  pub children : after.children ≡ before.children ++ map (λ kid. kid.child) part.added
  pub few : length answers ≤ length kids
  pub prefix : IsNotesPrefix (part.made ++ part.next) (steps_by plan)
  pub all : IfOk result (λ done. (part.made ≡ steps_by plan) × (length answers ≡ length kids))
  pub kids_are : left ≡ kids_after kids answers ++ part.added
  pub sent_are : gone ≡ sent ++ sent_numbers part.made

-- The children were asked, the new jobs noted, and what is due was made, or the first of it.
pub record Makes (program : List ℕ) (tells : Bool) (before after : Session) (old new : World) (plan : MailPlan)
    (kids left : List Kid) (sent gone : List ℕ) (result : Result (Unit {0}) HostFault) : Type 0 where
  pub part : MailPart
  pub answers : List (Option Ending)
  pub goes : MakesNotes before after plan kids left sent gone part answers result
  pub reads : tells ≡ true → IfOk result (λ done. ReadsBeside (sent_numbers part.made) old new)
  pub files : tells ≡ true → (of : Mailing) (notes : List Note) → of.program ≡ program → HoldsNotesAlone notes old.now.directory →
      plan.text.items ≡ notes_text (notes ++ noting_of plan.new_jobs.items) →
      AreDue of plan.due_notices.items → GivesAsked of notes part (questions kids answers) old new result

-- The files that are left over may be removed, and the steps made.
pub record MayRunPlan (opened : World) (kids : List Kid) (plan : MailPlan) : Type 0 where
  pub start : World
  pub table : JobTable
  pub notes : List Note
  pub is_opened : AreNotesOpened notes table start opened
  pub stale : plan.stale.items ≡ stale_names kids (reading opened)

-- where all steps were made, each image has all notes
abbrev pub IfReady : List Note → World → Result (Unit {0}) HostFault → Type 0
IfReady notes new (Ok done) = HoldsNotesAlone notes new.now.directory
IfReady notes new (Err fault) = Unit {0}

-- the notes that were made are posted, and where they were stopped those that come next may be too
abbrev pub PostedBy : Mailing → List Note → JobTable → MailPart → World → World → Result (Unit {0}) HostFault → Type 0
PostedBy of notes table part start new (Ok done) = HasPosted of notes part.made table start new
PostedBy of notes table part start new (Err fault) = HasPosted of notes (part.made ++ part.next) table start new

-- where all steps were made, other files are left alone
abbrev pub AloneBy : World → World → Result (Unit {0}) HostFault → Type 0
AloneBy old new (Ok done) = (image : Files) → IsImage new.now.directory image → LeavesOthers IsMailName old.now.directory image
AloneBy old new (Err fault) = Unit {0}

-- the new world has the moments of the old one, and more before them
pub record GoesFurther (old new : World) : Type 0 where
  pub more : List Moment
  pub run : moments new ≡ more ++ moments old

-- the notices that were sent are there, those of children read as before, and no other is there
pub record ReadsNotices (kids : List Kid) (sent : List ℕ) (old new : World) : Type 0 where
  pub placed : (number : ℕ) → Contains sent number → IsSome (finite.get (reading new) (notice_file number))
  pub stay : (number : ℕ) → Fits number → is_notice_of sent (notice_file number) ≡ false → has_kid kids number ≡ true
      → finite.get (reading new) (notice_file number) ≡ finite.get (reading old) (notice_file number)
  pub gone : (number : ℕ) → Fits number → is_notice_of sent (notice_file number) ≡ false → has_kid kids number ≡ false
      → finite.get (reading new) (notice_file number) ≡ None

abbrev pub ReadBy : List Kid → List ℕ → World → World → Result (Unit {0}) HostFault → Type 0
ReadBy kids sent old new (Ok done) = ReadsNotices kids sent old new
ReadBy kids sent old new (Err fault) = Unit {0}

-- the session is posted so far, these were sent, and the children are the children that came of them
pub record CarriesTo (of : Mailing) (notes : List Note) (table : JobTable) (kids : List Kid) (part : MailPart)
    (asked : List Asked)
    (start old new : World) (result : Result (Unit {0}) HostFault) : Type 0 where
  pub given : List Handed
  pub numbered : started_numbers given ≡ map (λ kid. kid.number) part.added
  pub posted : PostedBy of notes table part start new result
  pub handed : new.now.handed ≡ old.now.handed ++ given
  pub hands : SendsNotices of part.made given
  pub asked_are : new.asked ≡ old.asked ++ asked
  pub ready : IfReady (notes ++ part.made) new result
  pub alone : AloneBy old new result
  pub further : GoesFurther old new
  pub reads : ReadBy kids (sent_numbers part.made) old new result

-- The files that are left over were removed, and then the steps were made, or the first of them.
pub record RunsPlan (program : List ℕ) (tells : Bool) (before after : Session) (old new : World) (plan : MailPlan)
    (kids left : List Kid) (sent gone : List ℕ) (result : Result (Unit {0}) HostFault) : Type 0 where
  pub part : MailPart
  pub answers : List (Option Ending)
  pub goes : MakesNotes before after plan kids left sent gone part answers result
  pub files : tells ≡ true → (of : Mailing) (notes : List Note) (table : JobTable) (start : World) → of.program ≡ program →
      AreNotesOpened notes table start old →
      plan.text.items ≡ notes_text (notes ++ noting_of plan.new_jobs.items) →
      AreDue of plan.due_notices.items → CarriesTo of notes table kids part (questions kids answers) start old new result

-- The work of a session: a recovery, and the steps.
pub record MailWorks (tells : Bool) (old new : PostSpool) (sent : List ℕ) (result : Result (Unit {0}) StoreFault) : Type 0 where
  pub inside : IsInside new.session
  pub counts : KeepsCounts old.session new.session
  pub kept : KeepsChildren old.session.children new.session.children
  pub cause : HasCause fault.FileFault old.session.file_faults new.session.file_faults result
  pub faults : IfErr result IsReadingFault
  pub children : AreChildren new.session.children new.post.kids
  pub distinct : IsTrue (are_distinct sent)
  pub unread : IfDamaged fault.Damaged (λ damage. IsNothingSent sent old.post new.post) result
  pub leaves : tells ≡ true → MailLeaves sent old new (end_after result)
