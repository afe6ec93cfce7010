-- What a command leaves of all that it is handed (own).
use Rattle.std.specs.Prelude.{◌≡◌, ◌≢◌, ℕ, true, false, List, Err}
use Rattle.at_words.specs.declared.fault.WordsFault.{WordsFault}
use Rattle.tool_output.specs.declared.caller.Caller.{Caller}
use Rattle.command_rules.specs.Ends.{CommandEnds, FailsToPrint, StopsBeforeLock}
use Rattle.tool_output.specs.Outside.{HasRisen, OutsideAt, Telling, telling}
use Rattle.command_rules.specs.Found.{Asked, is_submission}
use Rattle.tool_output.specs.Sinks.{SinkAt}
use Rattle.host_calls.specs.Inputs.{AreReadAtMostOnce}
use Rattle.host_calls.specs.Session.{IsLeft}
use Rattle.host_calls.specs.World.{TimePasses}
use Rattle.listing_text.specs.declared.cause.Cause.{Cause}
use Rattle.listing_text.specs.declared.cause.Cause.TheVariants.{StillRunning}
use Rattle.serving.specs.Outside.{served_at}
use Rattle.at_commands.specs.Served.{ServesAnew, WhereServed}

-- each fault comes only where its count rose: that of the output, on the sink that is printed on
abbrev pub HasRisenAsked : Asked → OutsideAt → OutsideAt → Cause → Type 0
HasRisenAsked asked old new cause = HasRisen (FailsToPrint asked old.out new.out old.err new.err) old new cause

-- How a command ends that requests no daemon: it starts no child and starts nothing; its verdict and order, what each
-- crash on the way and each image of the end show, and what is printed and said. No load is read, and it does not end while
-- jobs still run. Words that request nothing leave the session alone, and so does all else that stops before the lock.
pub record EndsUnserved (Notes : Cause → (List ℕ → Type 0) → SinkAt → SinkAt → Type 0) (asked : Asked) (caller : Caller)
    (old new : OutsideAt) (cause : Cause) : Type 0 where
  pub left : IsLeft old.session new.session
  pub quiet : old.tells.files ≡ true → TimePasses old.holds.spool new.holds.spool
  pub ends : CommandEnds Notes asked caller old.tells old.holds new.holds cause
  pub not_running : cause ≢ StillRunning
  pub readers : new.readers ≡ old.readers
  pub unasked : (fault : WordsFault) → asked ≡ Err fault → new.session ≡ old.session
  pub before_lock : StopsBeforeLock cause → new.session ≡ old.session

-- what serving is known of: it is handed no inputs
abbrev pub telling_served : Telling → Telling
telling_served tells = telling tells.files tells.alone tells.clock false tells.output tells.errors

-- where a daemon is requested, one without children serves: its turns, what is printed and said of them, and its
-- cause
abbrev pub ServesAsked : Asked → OutsideAt → OutsideAt → Cause → Type 0
ServesAsked asked old new cause = WhereServed asked (λ limit interval once turns.
    ServesAnew (telling_served old.tells) limit interval once turns (served_at old) (served_at new) old.holds.output new.holds.output
    old.holds.errors new.holds.errors cause)

-- What the readings, the inputs and the sinks were made as stays, and so does what the inputs hold. No input is requested but
-- by a submission, which reads once at most.
pub record StaysMade (asked : Asked) (old new : OutsideAt) : Type 0 where
  pub readers : new.readers.made_as ≡ old.readers.made_as
  pub contents : new.holds.contents ≡ old.holds.contents
  pub inputs : AreReadAtMostOnce old.sources new.sources
  pub unread : is_submission asked ≡ false → new.sources ≡ old.sources
  pub out : new.out.made_as ≡ old.out.made_as
  pub err : new.err.made_as ≡ old.err.made_as
