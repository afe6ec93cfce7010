-- No minute comes twice (own): over any list of sessions of crontabs and of whatever else keeps the mark (commands, turns,
-- other sessions, crashes), no two sessions accept a job at one minute. A session accepts one where it reports a number, and
-- where it reports none and some image that it leaves shows a step of it.
use Rattle.std.specs.Prelude.{◌≡◌, ◌≢◌, ◌⊎◌, ◌++◌, [], ◌∷◌, ℕ, Bool, true, false, List, Some}
use Rattle.std.specs.FinMap as finite
use Rattle.host_calls.specs.ClockRange.{IsClockSecond}
use Rattle.host_calls.specs.Directory.{Files, Directory, IsImage}
use Rattle.host_calls.specs.World.{AnyMoment, Moment, World, moments, reading}
use Rattle.spool_model.specs.declared.job.Job.{Job}
use Rattle.spool_model.specs.JobTable.{JobTable}
use Rattle.spool_shows.specs.Shown.{shown_by}
use Rattle.cron_session.specs.Mark.{cron_mark_text}
use Rattle.cron_session.specs.MarkNames.{mark_file}
use Rattle.cron_session.specs.declared.report.CronEnd.{CronEnd}
use Rattle.cron_session.specs.SessionOutcome.{CronLeaves}
use Rattle.cron_session.specs.Steps.{AreToSubmit, Cron, minute_of}

-- each image has the mark that an image of before has
abbrev pub KeepsMark : Directory → Directory → Type 0
KeepsMark old new = (image : Files) → IsImage new image →
    (from : Files) × IsImage old from × (finite.get image mark_file ≡ finite.get from mark_file)

-- The image has the mark that an image of before has, and shows what that one shows.
pub record HasNothingNew (start : Directory) (image : Files) : Type 0 where
  pub from : Files
  pub was : IsImage start from
  pub mark : finite.get image mark_file ≡ finite.get from mark_file
  pub shows : shown_by image ≡ shown_by from

-- no minute was marked, and no job submitted: so of each image
abbrev pub SubmitsNothing : Directory → Directory → Type 0
SubmitsNothing old new = (image : Files) → IsImage new image → HasNothingNew old image

-- jobs were to be submitted, and each image has the mark of the minute
pub record SetsMark (cron : Cron) (old new : World) : Type 0 where
  pub table : JobTable
  pub jobs : List Job
  pub are : AreToSubmit cron (reading old) table jobs
  pub marked : (image : Files) → IsImage new.now.directory image →
      finite.get image mark_file ≡ Some (cron_mark_text (minute_of cron))

-- What passes: a session that ended so, and accepted these numbers; one that a crash cut off, after the mark was set or
-- before its first job; or anything else that keeps the mark.
pub data CronEvent : Type 0 where
  Ended : (cron : Cron) (end : CronEnd) (numbers : List ℕ) → CronEvent
  CutOff : (cron : Cron) (marked : Bool) → CronEvent
  Beside : CronEvent

-- it leads from one world to another
abbrev pub PassesAs : CronEvent → World → World → Type 0
PassesAs (Ended cron end numbers) old new = IsClockSecond cron.now × CronLeaves cron numbers old new end
PassesAs (CutOff cron true) old new = IsClockSecond cron.now × SetsMark cron old new
PassesAs (CutOff cron false) old new = SubmitsNothing old.now.directory new.now.directory
PassesAs Beside old new = KeepsMark old.now.directory new.now.directory

-- A crash at a moment of a session, after which the directory has one image of that moment alone.
pub record IsCrashOfSession (old during new : World) : Type 0 where
  pub more : List Moment
  pub run : moments during ≡ more ++ moments old
  pub at : Moment
  pub is_one : AnyMoment (λ moment. moment ≡ at) (more ++ old.now ∷ [])
  pub image : Files
  pub was : IsImage at.directory image
  pub only : (other : Files) → IsImage new.now.directory other → other ≡ image

-- a session in which there was a crash passes as one that was cut off, after the mark was set or before
abbrev pub CutSessionsPass : Type 0
CutSessionsPass = (cron : Cron) (end : CronEnd) (numbers : List ℕ) (old during new : World) → IsClockSecond cron.now →
    CronLeaves cron numbers old during end → IsCrashOfSession old during new →
    PassesAs (CutOff cron true) old new ⊎ PassesAs (CutOff cron false) old new

-- Some image of the new directory shows what no image of the old one shows: a step was made, and may survive a crash.
pub record ShowsAStep (old new : Directory) : Type 0 where
  pub image : Files
  pub is : IsImage new image
  pub unseen : (from : Files) → IsImage old from → shown_by image ≢ shown_by from

-- it may have accepted a job at the minute: it reports a number, or some image shows a step of it
abbrev pub MayAcceptAt : ℕ → CronEvent → World → World → Type 0
MayAcceptAt minute (Ended cron end numbers) old new =
    (minute_of cron ≡ minute) × ((numbers ≢ []) ⊎ ShowsAStep old.now.directory new.now.directory)
MayAcceptAt minute (CutOff cron marked) old new =
    (minute_of cron ≡ minute) × ((marked ≡ true) ⊎ ShowsAStep old.now.directory new.now.directory)
MayAcceptAt minute Beside old new = ⊥

-- an event that has passed, and the world that it left
pub record CronPassed : Type 0 where
  pub event : CronEvent
  pub left : World

-- the events pass one after another, the first of them from this world on
abbrev pub CronPassFrom : World → List CronPassed → Type 0
CronPassFrom old [] = Unit {0}
CronPassFrom old (passed ∷ later) = PassesAs passed.event old passed.left × CronPassFrom passed.left later

-- none of the events may have accepted a job at the minute
abbrev pub NoneAcceptsAt : ℕ → World → List CronPassed → Type 0
NoneAcceptsAt minute old [] = Unit {0}
NoneAcceptsAt minute old (passed ∷ later) =
    ¬ (MayAcceptAt minute passed.event old passed.left) × NoneAcceptsAt minute passed.left later

-- after an event that may have accepted a job at a minute, none of the later ones accepts one at this minute
abbrev pub AcceptApart : World → List CronPassed → Type 0
AcceptApart old [] = Unit {0}
AcceptApart old (passed ∷ later) =
    ((minute : ℕ) → MayAcceptAt minute passed.event old passed.left → NoneAcceptsAt minute passed.left later)
    × AcceptApart passed.left later

-- and so of all events
abbrev pub NoMinuteComesTwice : Type 0
NoMinuteComesTwice = (events : List CronPassed) (old : World) → CronPassFrom old events → AcceptApart old events
