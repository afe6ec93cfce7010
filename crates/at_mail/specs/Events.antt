-- No notice is sent twice (own), over any list of sessions, trims, other events and crashes.
use Rattle.std.specs.Prelude.{[], ◌∷◌, true, List}
use Rattle.std.specs.List.{All}
use Rattle.host_calls.specs.Session.{Session}
use Rattle.host_calls.specs.World.{World, reading}
use Rattle.host_calls.specs.declared.turn_end.TurnEnd.{TurnEnd}
use Rattle.spool_model.specs.JobTable.{JobTable}
use Rattle.spool_shows.specs.Shown.{Shows}
use Rattle.mail_notes.specs.declared.note.Note.{Note}
use Rattle.at_mail.specs.Once.{HasOnceSince, HasWholeNotes, IsBesideMail, IsCrashOfEvent, MailEvent}
use Rattle.at_mail.specs.Laws.{NoJobLivesAgain}
use Rattle.at_mail.specs.TrimOutcome.{IsTrimming, TrimsTo}

-- no job that is over in the table lives in what the reading shows
abbrev pub NoneLivesAgain : JobTable → World → Type 0
NoneLivesAgain table now = (later : JobTable) → Shows (reading now) later → NoJobLivesAgain table later

-- Events one after another, with the tables by which trims dropped notes, the last one first: a trim has recovered then, and
-- each image shows the table. Each event begins where the one before it ended, or where a crash of it left the directory. A
-- session of mail and a noting of the new jobs begin where no job lives that is over in one of the tables. What comes before
-- the recovery of a trim, and a trim that drops nothing, is an event that leaves the notes alone.
pub data TrimEvents (first : World) : List JobTable → World → Type 0 where
  no_event : TrimEvents first [] first
  after_mail : (tables : List JobTable) (before after : World) → TrimEvents first tables before
      → All (λ table. NoneLivesAgain table before) tables → MailEvent before after → TrimEvents first tables after
  after_another : (tables : List JobTable) (before after : World) → TrimEvents first tables before → IsBesideMail before after
      → TrimEvents first tables after
  after_trim : (tables : List JobTable) (before after : World) (table : JobTable) (notes : List Note)
      → TrimEvents first tables before → IsTrimming table notes before after → TrimEvents first (table ∷ tables) after
  crash_of_mail : (tables : List JobTable) (before during after : World) → TrimEvents first tables before
      → All (λ table. NoneLivesAgain table before) tables → MailEvent before during → IsCrashOfEvent before during after
      → TrimEvents first tables after
  crash_of_another : (tables : List JobTable) (before during after : World) → TrimEvents first tables before
      → IsBesideMail before during → IsCrashOfEvent before during after → TrimEvents first tables after
  crash_of_trim : (tables : List JobTable) (before during after : World) (table : JobTable) (notes : List Note)
      → TrimEvents first tables before → (trimming : IsTrimming table notes before during)
      → IsCrashOfEvent trimming.opened during after → TrimEvents first (table ∷ tables) after

-- where each image of the directory had a whole file of notes
abbrev pub NoticesAreHandedOnceWithTrims : Type 0
NoticesAreHandedOnceWithTrims = (first last : World) (tables : List JobTable) → HasWholeNotes first.now.directory →
    TrimEvents first tables last → HasOnceSince first.now.handed last.now.handed

-- a trim is an event, over a host that exposes its files and is alone
abbrev pub TrimsAreEvents : Type 0
TrimsAreEvents = (first old new : World) (tables : List JobTable) (before after : Session) (end : TurnEnd) →
    TrimEvents first tables old → TrimsTo true true before after old new end → (later : List JobTable) × TrimEvents first later new

-- and so is one in which there was a crash, at any moment of it
abbrev pub CrashesOfTrimsAreEvents : Type 0
CrashesOfTrimsAreEvents = (first old during new : World) (tables : List JobTable) (before after : Session) (end : TurnEnd) →
    TrimEvents first tables old → TrimsTo true true before after old during end → IsCrashOfEvent old during new →
    (later : List JobTable) × TrimEvents first later new
