-- The crontab, as its file gives it.
use Rattle.std.proofs.Common.{ℕ, Bool, List, Err, inl, inr}
use Rattle.cron_session.specs.SessionOutcome.{CronAt}
use Rattle.tool_output.specs.Outside.{InputAt, Telling, WorkAt}
use Rattle.listing_text.specs.declared.cause.Cause.{Cause}
use Rattle.listing_text.specs.declared.cause.Cause.TheVariants as cause
use Rattle.listing_text.specs.declared.refusal.Refusal.{Refusal}
use Rattle.listing_text.specs.declared.refusal.Refusal.TheVariants.{TooLong, BadCrontab}
use Rattle.tool_output.specs.declared.command_error.CommandError.{CommandError}
use Rattle.cron_turn.specs.CrontabFile.{AsksFile, IsCrontabUnread, ReadsEntries, ReadsFile, StopsText}
use Rattle.cron_turn.specs.Sessions.{StopsAtFile, StopsBefore}

-- the inputs were asked once, whatever came of it
asked_unread : (old new : InputAt) (cause : Cause) → IsCrontabUnread old new cause → AsksFile old new
asked_unread old new cause.InputFault unread = unread.0
asked_unread old new cause.Memory unread = unread
asked_unread old new _ unread = absurd unread

pub asked : (tells : Bool) (path : List ℕ) (old new : InputAt) (stopped : CommandError)
    → ReadsEntries tells path old new (Err stopped) → AsksFile old new
asked tells path old new stopped (inl gave_text) = gave_text.reads.asks
asked tells path old new stopped (inr unread) = asked_unread old new stopped.cause unread

module _ (tells : Telling) (path : List ℕ) (old new : WorkAt CronAt) (at : StopsAtFile tells old new) where
  -- the text was no crontab
  stops_refused : (refusal : Refusal) (bytes : List ℕ) → ReadsFile tells.input path bytes old.input new.input
      → StopsText bytes (cause.Refused refusal) → StopsBefore tells path old new (cause.Refused refusal)
  stops_refused TooLong bytes reads text = record { at_file = at; bytes = bytes; given = reads.given; so = text }
  stops_refused (BadCrontab line) bytes reads text = record { at_file = at; bytes = bytes; given = reads.given; so = text }
  stops_refused _ bytes reads text = absurd text

  stops_text : (why : Cause) (bytes : List ℕ) → ReadsFile tells.input path bytes old.input new.input → StopsText bytes why
      → StopsBefore tells path old new why
  stops_text (cause.Refused refusal) bytes reads text = stops_refused refusal bytes reads text
  stops_text cause.Memory bytes reads text = at
  stops_text _ bytes reads text = absurd text

  -- there was no text
  stops_unread : (why : Cause) → IsCrontabUnread old.input new.input why → StopsBefore tells path old new why
  stops_unread cause.InputFault unread = (at, unread.1)
  stops_unread cause.Memory unread = at
  stops_unread _ unread = absurd unread

  pub stops_reading : (stopped : CommandError) → ReadsEntries tells.input path old.input new.input (Err stopped)
      → StopsBefore tells path old new stopped.cause
  stops_reading stopped (inl gave_text) = stops_text stopped.cause gave_text.bytes gave_text.reads gave_text.of_text
  stops_reading stopped (inr unread) = stops_unread stopped.cause unread
