-- No notice is sent twice (own), over any list of sessions, other events and crashes.
use Rattle.std.specs.Prelude.{◌≡◌, ◌++◌, [], ◌∷◌, ℕ, Bool, true, List, filter, is_none, map}
use Rattle.std.specs.FinMap as finite
use Rattle.host_calls.specs.declared.child.Handed.{Handed}
use Rattle.host_calls.specs.Directory.{Files, Directory, HasImagesOf, IsImage}
use Rattle.host_calls.specs.Session.{Session}
use Rattle.host_calls.specs.World.{AnyMoment, HasEachImage, LeavesOnly, Moment, World, moments}
use Rattle.at_words.specs.Numbers.{are_distinct}
use Rattle.job_script.specs.HeaderIn.{header_in}
use Rattle.host_calls.specs.declared.turn_end.TurnEnd.{TurnEnd}
use Rattle.mail_notes.specs.declared.note.Note.{Note}
use Rattle.mail_notes.specs.Names.{mail_file}
use Rattle.mail_session.specs.SessionOutcome.{GivesNotes, MailLeaves, PostSpool, PostsTo}
use Rattle.tool_output.specs.Outside.{Telling, WorkAt}
use Rattle.at_mail.specs.SessionsWithRests.{MakesMailSessions}
use Rattle.at_mail.specs.NotingOutcome.{IsNoting, NotesNewJobs}
use Rattle.at_mail.specs.Outcomes.{PostItem}

-- what was sent is a notice: its script has no header of a job
abbrev pub is_notice : Handed → Bool
is_notice handed = is_none (header_in handed.script)

-- the numbers of the notices among these
abbrev pub notice_numbers : List Handed → List ℕ
notice_numbers given = map (λ handed. handed.number) (filter is_notice given)

-- each image of the directory has a whole file of notes
abbrev pub HasWholeNotes : Directory → Type 0
HasWholeNotes directory = (image : Files) → IsImage directory image → (notes : List Note) ×
    GivesNotes (finite.get image mail_file) notes

-- a session of mail, whatever its end, by a post that keeps what it will
pub record IsMailSession (old new : World) : Type 0 where
  pub before : PostSpool
  pub after : PostSpool
  pub was : before.world ≡ old
  pub is : after.world ≡ new
  pub end : TurnEnd
  pub sent : List ℕ
  pub leaves : MailLeaves sent before after end

-- the image has the file of notes of an image of the start, and no notice was sent since
pub record LeavesNotes (start : Moment) (image : Files) (handed : List Handed) : Type 0 where
  pub from : Files
  pub was : IsImage start.directory from
  pub same : finite.get image mail_file ≡ finite.get from mail_file
  pub given : List Handed
  pub grown : handed ≡ start.handed ++ given
  pub no_notice : notice_numbers given ≡ []

-- an event that leaves the notes alone, such as a command or a turn: each image of each moment, and each at its end
pub record IsBesideMail (old new : World) : Type 0 where
  pub leaves : LeavesOnly (LeavesNotes old.now) old new
  pub now : HasEachImage (LeavesNotes old.now) new.now

-- an event: a session of mail, one that notes the new jobs, or another one
pub data MailEvent (old new : World) : Type 0 where
  a_session : IsMailSession old new → MailEvent old new
  a_noting : IsNoting old new → MailEvent old new
  another : IsBesideMail old new → MailEvent old new

-- A crash at a moment of the event: what is then has images of that moment alone, and what was sent by then.
pub record IsCrashOfEvent (old during new : World) : Type 0 where
  pub more : List Moment
  pub run : moments during ≡ more ++ moments old
  pub at : Moment
  pub is_one : AnyMoment (λ moment. moment ≡ at) (more ++ old.now ∷ [])
  pub images : HasImagesOf at.directory new.now.directory
  pub handed : new.now.handed ≡ at.handed

-- Events one after another: each begins where the one before it ended, or where a crash of it left the directory.
pub data MailEvents (first : World) : World → Type 0 where
  no_event : MailEvents first first
  next_event : (before after : World) → MailEvents first before → MailEvent before after → MailEvents first after
  crashed : (before during after : World) → MailEvents first before → MailEvent before during → IsCrashOfEvent before during after
      → MailEvents first after

-- of the notices that were sent since, no number occurs twice
pub record HasOnceSince (old new : List Handed) : Type 0 where
  pub given : List Handed
  pub grown : new ≡ old ++ given
  pub once : are_distinct (notice_numbers given) ≡ true

-- where each image of the directory had a whole file of notes
abbrev pub NoticesAreHandedOnce : Type 0
NoticesAreHandedOnce = (first last : World) → HasWholeNotes first.now.directory → MailEvents first last →
    HasOnceSince first.now.handed last.now.handed

-- a session of a post is an event, over a host that exposes its files and is alone
abbrev pub SessionsAreEvents : Type 0
SessionsAreEvents = (old new : PostSpool) (end : TurnEnd) (sent : List ℕ) → PostsTo true true old new end sent
    → MailEvent old.world new.world

-- so is a noting of the new jobs
abbrev pub NotingsAreEvents : Type 0
NotingsAreEvents = (old new : World) (before after : Session) (end : TurnEnd) → NotesNewJobs true true before after old new end
    → MailEvent old new

-- and the sessions of the program are events, one after another
abbrev pub ProgramsAreEvents : Type 0
ProgramsAreEvents = (tells : Telling) (items : List PostItem) (first last : WorkAt PostSpool) → tells.files ≡ true →
    tells.alone ≡ true →
    MakesMailSessions tells first items last → MailEvents first.spool.world last.spool.world
