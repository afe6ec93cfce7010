-- What a session of mail leaves, by its end (own).
use Rattle.std.specs.Prelude.{◌≡◌, ◌⊎◌, ◌≤◌, ◌++◌, [], ◌∷◌, ℕ, Bool, true, false, List, Option, Some, None, Err, IsSome, Contains, length, map}
use Rattle.std.specs.FinMap as finite
use Rattle.host_calls.specs.declared.child.Ending.{Ending}
use Rattle.host_calls.specs.declared.child.Handed.{Handed}
use Rattle.host_calls.specs.declared.damage.Damage.{Damage}
use Rattle.host_calls.specs.Causes.{Rose}
use Rattle.host_calls.specs.Directory.{Files, reading_of}
use Rattle.host_calls.specs.Session.{IsOutside, KeepsCounts, Session}
use Rattle.host_calls.specs.World.{HasEachImage, LeavesOnly, Moment, World, moments, reading}
use Rattle.record_lines.specs.Lines.{AreRecordLines}
use Rattle.spool_model.specs.JobTable.{JobTable}
use Rattle.spool_shows.specs.Shown.{Shows, shown_by}
use Rattle.spool_store.specs.Recovery.{ShowsTheSame}
use Rattle.step_runs.specs.Attempts.{IsUnbegun}
use Rattle.step_runs.specs.Current.{IsSpoolName}
use Rattle.daemon_turn.specs.declared.kid.Kid.{Kid}
use Rattle.host_calls.specs.declared.turn_end.TurnEnd.{TurnEnd}
use Rattle.host_calls.specs.declared.turn_end.TurnEnd.TheVariants.{Done, Busy, FileFault, Damaged, Memory}
use Rattle.daemon_turn.specs.Decisions.{has_kid, questions}
use Rattle.daemon_turn.specs.Kids.{AreChildren, KeepsChildren, started_numbers}
use Rattle.daemon_turn.specs.TurnOutcome.{IfNoTableRead}
use Rattle.mail_notes.specs.declared.note.Note.{Note}
use Rattle.mail_notes.specs.declared.note.NotedJob.{NotedJob}
use Rattle.mail_notes.specs.Hands.{SendsNotices, Mailing}
use Rattle.mail_notes.specs.Lines.{Fits, SpellsNote}
use Rattle.mail_notes.specs.Names.{IsMailName, mail_file, notice_file}
use Rattle.mail_notes.specs.Notes.{IsNotesPrefix, IsNoteAllowed}
use Rattle.mail_notes.specs.Runs.{HoldsNotesAlone}
use Rattle.mail_session.specs.declared.due.NoticeDue.{NoticeDue}
use Rattle.mail_session.specs.AskedChildren.{kids_after}
use Rattle.mail_session.specs.Dues.{notes_of}
use Rattle.mail_session.specs.News.{IsNotedFrom, new_numbers, noting_of}
use Rattle.mail_session.specs.PostState.{PostState}
use Rattle.mail_session.specs.ReadNotes.{IsDamageOf}
use Rattle.mail_session.specs.Sessions.{HasPosted, IsMailUntouched}
use Rattle.mail_session.specs.Steps.{AreDuesOf}

-- a host at one moment, and the post that works on it
pub record PostSpool : Type 0 where
  pub session : Session
  pub world : World
  pub post : PostState

-- What a session reads.

-- what is at the name of the file of notes has these, each of which may come after those before it: an absent file has none
abbrev pub GivesNotes : Option (List ℕ) → List Note → Type 0
GivesNotes None notes = notes ≡ []
GivesNotes (Some bytes) notes = AreRecordLines SpellsNote IsNoteAllowed bytes notes

-- the directory is damaged, or else its file of notes
abbrev pub IsSpoolOrNotesDamage : Files → Damage → Type 0
IsSpoolOrNotesDamage files damage =
    (shown_by files ≡ Err damage)
    ⊎ ((table : JobTable) × Shows files table × IsDamageOf (finite.get files mail_file) damage)

-- The steps of a session on a table, after these notes: each live job of which there is no note is noted, by number, and
-- then it is noted of each job that waits for its notice and is no longer live, by number, that it is sent or dropped.
pub record AreMailSteps (files : Files) (table : JobTable) (notes steps : List Note) : Type 0 where
  pub new_jobs : List NotedJob
  pub due_notices : List NoticeDue
  pub numbers : map (λ job. job.number) new_jobs ≡ new_numbers table notes
  pub each : (job : NotedJob) → Contains new_jobs job → IsNotedFrom files table job
  pub due : AreDuesOf table notes due_notices
  pub all : steps ≡ noting_of new_jobs ++ notes_of due_notices

-- the moment is one since the old world: that of its own, or one of those that came after it
pub record IsSince (old new : World) (at : Moment) : Type 0 where
  pub more : List Moment
  pub run : moments new ≡ more ++ moments old
  pub is_one : Contains (more ++ old.now ∷ []) at

-- What a session reads and is to do: the reading of its start shows the table and has the notes; the steps are those of a
-- session, by the files as they read at one of its moments.
pub record HasReadNotes (table : JobTable) (notes steps : List Note) (old new : World) : Type 0 where
  pub shown : Shows (reading old) table
  pub gives : GivesNotes (finite.get (reading old) mail_file) notes
  pub at : Moment
  pub since : IsSince old new at
  pub are : AreMailSteps (reading_of at.directory) table notes steps

-- what its notices are made of
abbrev pub mailing_of : PostState → JobTable → List Note → List Note → Mailing
mailing_of post table notes steps = record { program = post.program; table = table; notes = notes ++ steps }

-- What a session leaves besides the notes.

-- What the session sent and asked, and the numbers of the scripts that were sent, in order. The children are
-- those that stay, and after them the child of each start that gave one, under its number.
pub record SessionHandsOver (made : List Note) (given : List Handed) (answers : List (Option Ending)) (of : Mailing)
    (sent : List ℕ)
    (old new : PostSpool) : Type 0 where
  pub handed : new.world.now.handed ≡ old.world.now.handed ++ given
  pub hands : SendsNotices of made given
  pub sent_are : sent ≡ map (λ handed. handed.number) given
  pub asked : new.world.asked ≡ old.world.asked ++ questions old.post.kids answers
  pub added : List Kid
  pub numbered : map (λ kid. kid.number) added ≡ started_numbers given
  pub children : new.session.children ≡ old.session.children ++ map (λ kid. kid.child) added
  pub kids : new.post.kids ≡ kids_after old.post.kids answers ++ added

-- The files of notices at the end: those of the notices that were sent, and those of the children that there were before
-- they were asked, as they were. No other is there.
pub record AreNoticeFiles (kids : List Kid) (sent : List ℕ) (old new : Files) : Type 0 where
  pub placed : (number : ℕ) → Contains sent number → IsSome (finite.get new (notice_file number))
  pub stay : (number : ℕ) → Fits number → ¬ (Contains sent number) → has_kid kids number ≡ true
      → finite.get new (notice_file number) ≡ finite.get old (notice_file number)
  pub gone : (number : ℕ) → Fits number → ¬ (Contains sent number) → has_kid kids number ≡ false
      → finite.get new (notice_file number) ≡ None

-- What a session leaves, by its end.

-- The session was made to its end: all of its steps are in each image, each child was asked once, and each notice that is
-- due was sent. Other files read as before.
pub record IsMailDone (sent : List ℕ) (old new : PostSpool) : Type 0 where
  pub table : JobTable
  pub notes : List Note
  pub steps : List Note
  pub read : HasReadNotes table notes steps old.world new.world
  pub given : List Handed
  pub answers : List (Option Ending)
  pub posted : HasPosted (mailing_of old.post table notes steps) notes steps table old.world new.world
  pub stand : HoldsNotesAlone (notes ++ steps) new.world.now.directory
  pub each_asked : length answers ≡ length old.post.kids
  pub gave : SessionHandsOver steps given answers (mailing_of old.post table notes steps) sent old new
  pub notices : AreNoticeFiles old.post.kids sent (reading old.world) (reading new.world)
  pub others : (name : List ℕ) → ¬ (IsSpoolName name) → ¬ (IsMailName name)
      → finite.get (reading new.world) name ≡ finite.get (reading old.world) name

-- The session was stopped: the first of its steps were made, and next ones may have taken effect too, of which
-- nothing was sent.
pub record IsMailStopped (sent : List ℕ) (old new : PostSpool) : Type 0 where
  pub table : JobTable
  pub notes : List Note
  pub steps : List Note
  pub read : HasReadNotes table notes steps old.world new.world
  pub made : List Note
  pub next : List Note
  pub first : IsNotesPrefix (made ++ next) steps
  pub given : List Handed
  pub answers : List (Option Ending)
  pub posted : HasPosted (mailing_of old.post table notes steps) notes (made ++ next) table old.world new.world
  pub some_asked : length answers ≤ length old.post.kids
  pub gave : SessionHandsOver made given answers (mailing_of old.post table notes steps) sent old new

-- nothing was sent, and the children are as before
pub record IsNothingSent (sent : List ℕ) (old new : PostState) : Type 0 where
  pub none : sent ≡ []
  pub kids : new.kids ≡ old.kids

-- The session was stopped before its first step: the reading shows what it showed, each image has the notes of one of the
-- start, nothing was sent or asked, and the children are as before.
pub record IsMailIdle (sent : List ℕ) (old new : PostSpool) : Type 0 where
  pub none : IsNothingSent sent old.post new.post
  pub leaves : LeavesOnly (IsMailUntouched old.world.now) old.world new.world
  pub now : HasEachImage (IsMailUntouched old.world.now) new.world.now
  pub shown : ShowsTheSame old.world.now.directory new.world.now.directory
  pub asked : new.world.asked ≡ old.world.asked

-- what a session leaves, by its end: where it is damaged no file of mail was removed
abbrev pub MailLeaves : List ℕ → PostSpool → PostSpool → TurnEnd → Type 0
MailLeaves sent old new Done = IsMailDone sent old new
MailLeaves sent old new Busy = IsMailIdle sent old new × (new.world ≡ old.world)
MailLeaves sent old new FileFault = IsMailIdle sent old new ⊎ IsMailStopped sent old new
MailLeaves sent old new (Damaged damage) =
    IsMailIdle sent old new × IsUnbegun old.world new.world × IsSpoolOrNotesDamage (reading old.world) damage
MailLeaves sent old new Memory = IsMailIdle sent old new ⊎ IsMailStopped sent old new

-- A session of mail. Of every host: its session is over, its children stay and the children are some of them; the mail
-- program stays; why it ended so. Of a host that exposes its files and is alone: what it leaves.
pub record PostsTo (tells alone : Bool) (old new : PostSpool) (end : TurnEnd) (sent : List ℕ) : Type 0 where
  pub outside : IsOutside new.session
  pub counts : KeepsCounts old.session new.session
  pub kept : KeepsChildren old.session.children new.session.children
  pub children : AreChildren new.session.children new.post.kids
  pub program : new.post.program ≡ old.post.program
  pub busy : end ≡ Busy → Rose old.session.taken new.session.taken
  pub fault : end ≡ FileFault → Rose old.session.file_faults new.session.file_faults
  pub unread : IfNoTableRead end (IsNothingSent sent old.post new.post)
  pub leaves : tells ≡ true → alone ≡ true → MailLeaves sent old new end
