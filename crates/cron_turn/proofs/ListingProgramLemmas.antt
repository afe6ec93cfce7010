-- What is read and put, by what came of each call.
use Rattle.std.proofs.Common.{◌≡◌, ◌+◌, ℕ, ℤ, Bool, true, false, List, Result, Ok, Err, refl, sym, subst, inl, inr, ap}
use Rattle.tool_output.specs.Outside.{Telling}
use Rattle.at_words.specs.Answers.{Answers}
use Rattle.at_words.specs.declared.fault.WordsFault.{WordsFault}
use Rattle.at_words.specs.declared.fault.WordsFault.TheVariants.{Usage, BadQueue, Memory as NoMemory}
use Rattle.tool_output.specs.Causes.{error_of, words_cause}
use Rattle.tool_output.specs.declared.command_error.CommandError.{CommandError}
use Rattle.civil_minute.specs.declared.zone.Zone.{Zone}
use Rattle.host_calls.specs.ClockRange.{IsClockSecond, minute_at}
use Rattle.cron_turn.specs.Clock.{ReadsClock}
use Rattle.cron_text.specs.declared.entry.CronEntry.{CronEntry}
use Rattle.listing_text.specs.declared.cause.Cause.{Cause}
use Rattle.listing_text.specs.declared.cause.Cause.TheVariants.{Memory}
use Rattle.cron_turn.specs.declared.listing_words.NextRequest.{NextRequest}
use Rattle.cron_turn.specs.Listing.{IsCronListing}
use Rattle.cron_turn.specs.ListingRun.{ListsAsRequested, GivesListing, HasReadCrontab, IsListed, ListsOrLacksMemory, ListingAt, ReadAt, no_memory, the_listing}
use Rattle.cron_turn.specs.inside.AddedLines.{GivesText}

module _ (clock input : Bool) (zone : Zone) (request : NextRequest) (old new : ReadAt) where
  -- the listing of the entries that were read, or an out-of-memory error for it
  pub gives_text : (entries : List CronEntry) (from : ℕ) (result : Result (List ℕ) CommandError)
      → (read : HasReadCrontab clock input request old new (Ok entries))
      → from ≡ minute_at read.now + 1 → GivesText zone from request.count entries result
      → GivesListing clock input zone request old new result
  gives_text entries from (Ok text) read is text_is =
      the_listing entries text read (subst (λ (at : ℕ). IsCronListing zone at request.count entries text) is text_is)
  gives_text entries from (Err stopped) read is memory =
      subst (λ (of : CommandError). GivesListing clock input zone request old new (Err of)) (sym memory) (no_memory entries read)

module _ (tells : Telling) (zone : Zone) (old new : ListingAt) where
  -- what the words request was done
  pub lists_taken : (asked : Result NextRequest WordsFault) (request : NextRequest) (why : Cause) → Answers asked (Ok request)
      → IsListed tells zone request old new why → ListsOrLacksMemory asked tells zone old new why
  lists_taken asked request why answers listed = inr (subst (λ of. ListsAsRequested of tells zone old new why) answers listed)

  -- they request nothing
  pub lists_refused : (asked : Result NextRequest WordsFault) (fault : WordsFault) → Answers asked (Err fault) → new ≡ old
      → ListsOrLacksMemory asked tells zone old new (words_cause fault)
  lists_refused asked Usage answers same =
      inr (subst (λ of. ListsAsRequested of tells zone old new (words_cause Usage)) answers (refl, same))
  lists_refused asked BadQueue answers same =
      inr (subst (λ of. ListsAsRequested of tells zone old new (words_cause BadQueue)) answers (refl, same))
  lists_refused asked NoMemory answers same = inl (refl, same)
