-- How the parts of a session of mail join.
use Rattle.std.specs.Prelude.{◌≡◌, ◌≢◌, ◌++◌, [], ℕ, List, Option, IsSome, Contains}
use Rattle.std.specs.FinMap as map
use Rattle.host_calls.specs.declared.child.Asked.{Asked}
use Rattle.host_calls.specs.declared.child.Ending.{Ending}
use Rattle.host_calls.specs.declared.child.Handed.{Handed}
use Rattle.host_calls.specs.Directory.{Files}
use Rattle.host_calls.specs.World.{World, reading}
use Rattle.spool_model.specs.JobTable.{JobTable}
use Rattle.step_runs.specs.Calls.{ShowsAsBefore}
use Rattle.step_runs.specs.Current.{Kept}
use Rattle.step_runs.specs.WithoutScripts.{without_scripts}
use Rattle.spool_store.specs.Recovery.{IsRecovered}
use Rattle.whole_file.specs.Removal.{AreCleared, IsClearing}
use Rattle.whole_file.specs.Others.{ChangesFiles}
use Rattle.daemon_turn.specs.declared.kid.Kid.{Kid}
use Rattle.daemon_turn.specs.Decisions.{questions}
use Rattle.mail_notes.specs.declared.note.Note.{Note}
use Rattle.mail_notes.specs.declared.note.Note.TheVariants.{Noted}
use Rattle.mail_notes.specs.declared.note.NotedJob.{NotedJob}
use Rattle.mail_notes.specs.Hands.{Mailing}
use Rattle.mail_notes.specs.Lines.{HoldsNotes}
use Rattle.mail_notes.specs.Names.{IsMailName, mail_file, mail_temp}
use Rattle.mail_notes.specs.Runs.{AreNotesMade, AreNotesStopped, HoldsNotesAlone}
use Rattle.mail_session.specs.declared.due.NoticeDue.{NoticeDue}
use Rattle.mail_session.specs.AskedChildren.{asked_besides}
use Rattle.mail_session.specs.Dues.{AreDue}
use Rattle.mail_session.specs.Sessions.{HasPosted, IsCleared, AreNotesOpened}
use Rattle.mail_session.specs.Stale.{AreStaleFiles, stale_names}
use Rattle.mail_session.specs.Steps.{AreDuesOf}

-- a recovery opens the session, with the notes that are read after it
abbrev pub RecoveriesOpen : Type 0
RecoveriesOpen = (kept : Kept) (notes : List Note) (start opened : World) →
    ChangesFiles (ShowsAsBefore start.now.directory) start opened → (is : IsRecovered start.now.directory opened.now.directory kept) →
    HoldsNotes (map.get (reading opened) mail_file) notes → AreNotesOpened notes is.table start opened

-- where these files of mail are removed, one that is being made among them, the notes may be made
abbrev pub LeftoversAreCleared : Type 0
LeftoversAreCleared = (notes : List Note) (table : JobTable) (names : List (List ℕ)) (start opened cleared : World) →
    AreNotesOpened notes table start opened → ((name : List ℕ) → Contains names name → IsMailName name × (name ≢ mail_file)) →
    (IsSome (map.get (reading opened) mail_temp) → Contains names mail_temp) →
    ChangesFiles (IsClearing names opened.now.directory) opened cleared →
    (names ≢ [] → AreCleared names opened.now.directory cleared.now.directory) → IsCleared notes table start cleared

-- a question to children changes no file, starts nothing and makes no note
abbrev pub QuestionsMakeNoNote : Type 0
QuestionsMakeNoNote = (of : Mailing) (notes : List Note) (kids : List Kid) (answers : List (Option Ending)) (world : World) →
    HoldsNotesAlone notes world.now.directory → AreNotesMade of notes [] [] (questions kids answers) world
    (asked_besides kids answers world)

-- the files that are left over are files of mail, none of them that of the notes, and one that is being made is among them
abbrev pub StaleFilesAreOfMail : Type 0
StaleFilesAreOfMail = (kids : List Kid) (files : Files) → AreStaleFiles (stale_names kids files) files

-- notes that were made then post the session
abbrev pub SessionsPost : Type 0
SessionsPost = (of : Mailing) (notes new_ones : List Note) (given : List Handed) (questions : List Asked) (table : JobTable)
    (start cleared end : World) → IsCleared notes table start cleared →
    AreNotesMade of notes new_ones given questions cleared end →
    HasPosted of notes new_ones table start end

-- and so do notes that were stopped, as far as they came
abbrev pub StoppedSessionsPost : Type 0
StoppedSessionsPost = (of : Mailing) (notes new_ones next : List Note) (given : List Handed) (questions : List Asked)
    (table : JobTable) (start cleared end : World) → IsCleared notes table start cleared →
    AreNotesStopped of notes new_ones next given questions cleared end → HasPosted of notes (new_ones ++ next) table start end

-- what is due of the jobs that wait, by what a store keeps of the table, is due
abbrev pub DuesAreDue : Type 0
DuesAreDue = (of : Mailing) (notes : List Note) (table : JobTable) (due_notices : List NoticeDue) → table ≡ without_scripts of.table →
    ((job : NotedJob) → Contains notes (Noted job) → Contains of.notes (Noted job)) → AreDuesOf table notes due_notices
    → AreDue of due_notices
