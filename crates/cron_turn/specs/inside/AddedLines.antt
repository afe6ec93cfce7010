-- Texts that grow, and the listing of entries (own).
use Rattle.std.specs.Prelude.{◌≡◌, ◌++◌, ℕ, List, Result, Ok, Err}
use Rattle.tool_output.specs.Causes.{error_of}
use Rattle.tool_output.specs.declared.command_error.CommandError.{CommandError}
use Rattle.civil_minute.specs.declared.zone.Zone.{Zone}
use Rattle.cron_text.specs.declared.entry.CronEntry.{CronEntry}
use Rattle.listing_text.specs.declared.cause.Cause.TheVariants.{Memory}
use Rattle.cron_turn.specs.Listing.{IsCronListing}

-- such a text was added
abbrev pub Adds : (List ℕ → Type 0) → List ℕ → List ℕ → Type 0
Adds IsText old new = (more : List ℕ) × IsText more × (new ≡ old ++ more)

-- the listing of the entries, or an out-of-memory error
abbrev pub GivesText : Zone → ℕ → ℕ → List CronEntry → Result (List ℕ) CommandError → Type 0
GivesText zone from count entries (Ok text) = IsCronListing zone from count entries text
GivesText zone from count entries (Err stopped) = stopped ≡ error_of Memory
