-- What the program reads and puts, and how it ends (own).
use Rattle.std.specs.Prelude.{◌≡◌, ◌⊎◌, ◌+◌, ◌≤◌, ℕ, ℤ, Bool, true, false, List, Result, Ok, Err, codes}
use Rattle.tool_output.specs.Outside.{ClockAt, InputAt, Telling, clock_at, input_at, telling}
use Rattle.at_words.specs.declared.fault.WordsFault.{WordsFault}
use Rattle.tool_output.specs.Causes.{error_of, words_cause}
use Rattle.tool_output.specs.SaidLines.{IsSaid}
use Rattle.tool_output.specs.Sinks.{IsCut, IsPut, IsSilent, SinkAt, sink_at}
use Rattle.tool_output.specs.declared.command_error.CommandError.{CommandError}
use Rattle.civil_minute.specs.Zone.{is_unreadable}
use Rattle.civil_minute.specs.declared.zone.Zone.{Zone}
use Rattle.host_calls.specs.ClockRange.{IsClockSecond, minute_at}
use Rattle.cron_turn.specs.Clock.{ReadsClock}
use Rattle.cron_turn.specs.CrontabFile.{ReadsEntries}
use Rattle.cron_text.specs.declared.entry.CronEntry.{CronEntry}
use Rattle.host_calls.specs.Causes.{Rose}
use Rattle.host_calls.specs.declared.inputs.Inputs as inputs
use Rattle.host_calls.specs.declared.readings.Readings as readings
use Rattle.host_calls.specs.declared.sink.Sink as sink
use Rattle.listing_text.specs.declared.cause.Cause.{Cause}
use Rattle.listing_text.specs.declared.cause.Cause.TheVariants.{Done, Refused, OutputFault, Memory}
use Rattle.listing_text.specs.declared.refusal.Refusal.TheVariants.{BadClock, BadZone}
use Rattle.cron_turn.specs.declared.listing_words.NextRequest.{NextRequest}
use Rattle.cron_turn.specs.Listing.{IsCronListing}

-- the clock and the inputs
pub record ReadAt : Type 0 where
  pub clock : ClockAt
  pub input : InputAt

abbrev pub read_at : {R I : Type 0} → readings.Ghosts R → inputs.Ghosts I → R → I → ReadAt
read_at r i readings inputs = record { clock = clock_at r readings; input = input_at i inputs }

-- and what was put on the output
pub record ListingAt : Type 0 where
  pub read : ReadAt
  pub out : SinkAt

abbrev pub listing_at : {R I O : Type 0} → readings.Ghosts R → inputs.Ghosts I → sink.Ghosts O → R → I → O → ListingAt
listing_at r i o readings inputs out = record { read = read_at r i readings inputs; out = sink_at (o.content out) (o.outlet out) }

-- which of them tell what they hold: there is no directory, and nothing is said
abbrev pub listing_telling : {R I O : Type 0} → readings.Ghosts R → inputs.Ghosts I → sink.Ghosts O → Telling
listing_telling r i o = telling false false r.tells i.tells o.tells false

-- The clock answered a second in its range, and the file was read, with this result.
pub record HasReadCrontab (clock input : Bool) (request : NextRequest) (old new : ReadAt)
    (result : Result (List CronEntry) CommandError)
    : Type 0 where
  pub now : ℤ
  pub range : IsClockSecond now
  pub clock_read : ReadsClock clock now old.clock new.clock
  pub entries_read : ReadsEntries input request.file old.input new.input result

-- What is read, and the listing of it: from the minute after that of the clock on. Or the clock is out of its range, the
-- file gives no entries, or there is no memory.
pub data GivesListing (clock input : Bool) (zone : Zone) (request : NextRequest) (old new : ReadAt)
    : Result (List ℕ) CommandError → Type 0 where
  bad_clock : (now : ℤ) → ¬ (IsClockSecond now) → ReadsClock clock now old.clock new.clock → new.input ≡ old.input
      → GivesListing clock input zone request old new (Err (error_of (Refused BadClock)))
  no_entries : (stopped : CommandError) → HasReadCrontab clock input request old new (Err stopped)
      → GivesListing clock input zone request old new (Err stopped)
  no_memory : (entries : List CronEntry) → HasReadCrontab clock input request old new (Ok entries)
      → GivesListing clock input zone request old new (Err (error_of Memory))
  the_listing : (entries : List CronEntry) (text : List ℕ) → (read : HasReadCrontab clock input request old new (Ok entries))
      → IsCronListing zone (minute_at read.now + 1) request.count entries text
      → GivesListing clock input zone request old new (Ok text)

-- all of the text was put, a prefix of it where the output failed, or nothing for lack of memory
abbrev pub PutsListing : Bool → List ℕ → SinkAt → SinkAt → Cause → Type 0
PutsListing tells text old new Done = tells ≡ true → IsPut text old new
PutsListing tells text old new OutputFault = Rose old.faults new.faults × (tells ≡ true → IsCut text old new)
PutsListing tells text old new Memory = tells ≡ true → IsSilent old new
PutsListing tells text old new _ = ⊥

-- What is done for a request: a zone that can't be read is refused, else the listing is put, or it is said why there is none.
pub data IsListed (tells : Telling) (zone : Zone) (request : NextRequest) (old new : ListingAt) : Cause → Type 0 where
  bad_zone : is_unreadable zone ≡ true → new ≡ old → IsListed tells zone request old new (Refused BadZone)
  no_listing : (stopped : CommandError) → is_unreadable zone ≡ false
      → GivesListing tells.clock tells.input zone request old.read new.read (Err stopped)
      → new.out ≡ old.out → IsListed tells zone request old new stopped.cause
  listing_put : (text : List ℕ) (cause : Cause) → is_unreadable zone ≡ false
      → GivesListing tells.clock tells.input zone request old.read new.read (Ok text)
      → PutsListing tells.output text old.out new.out cause → IsListed tells zone request old new cause

-- what the words request is done, or they request nothing, or there was no memory for them
abbrev pub ListsAsRequested : Result NextRequest WordsFault → Telling → Zone → ListingAt → ListingAt → Cause → Type 0
ListsAsRequested (Err fault) tells zone old new cause = (cause ≡ words_cause fault) × (new ≡ old)
ListsAsRequested (Ok request) tells zone old new cause = IsListed tells zone request old new cause

abbrev pub ListsOrLacksMemory : Result NextRequest WordsFault → Telling → Zone → ListingAt → ListingAt → Cause → Type 0
ListsOrLacksMemory asked tells zone old new cause = ((cause ≡ Memory) × (new ≡ old)) ⊎ ListsAsRequested asked tells zone old new cause

-- How the program runs: what the words request is done, and the line of its cause is said.
pub record NextRuns (asked : Result NextRequest WordsFault) (tells : Telling) (says : Bool) (zone : Zone) (old new : ListingAt)
    (was now : SinkAt) (final : Cause) : Type 0 where
  pub cause : Cause
  pub lists : ListsOrLacksMemory asked tells zone old new cause
  pub line : IsSaid (codes "atcron") says cause was now final
