-- The crontab of a file, as inputs give it (own).
use Rattle.std.specs.Prelude.{◌≡◌, ◌⊎◌, ◌+◌, ◌≤◌, ◌<◌, ℕ, Bool, true, List, Result, Ok, Err, length}
use Rattle.host_calls.specs.Causes.{Rose}
use Rattle.host_calls.specs.Inputs.{AreReadOnce, IsInputPrefix}
use Rattle.listing_text.specs.declared.cause.Cause.{Cause}
use Rattle.listing_text.specs.declared.cause.Cause.TheVariants as cause
use Rattle.listing_text.specs.declared.refusal.Refusal.TheVariants.{BadCrontab, TooLong}
use Rattle.tool_output.specs.Outside.{InputAt}
use Rattle.tool_output.specs.declared.command_error.CommandError.{CommandError}
use Rattle.cron_text.specs.declared.crontab.TheConstants.{MAX_CRONTAB}
use Rattle.cron_text.specs.declared.entry.CronEntry.{CronEntry}
use Rattle.cron_text.specs.Crontab.{IsFirstBad, SpellsCrontab}

-- the inputs were asked once for a file
pub record AsksFile (old new : InputAt) : Type 0 where
  pub contents : new.contents ≡ old.contents
  pub once : AreReadOnce old.sources new.sources
  pub later : old.sources.input_faults ≤ new.sources.input_faults

-- they gave these first bytes of it: one more at most than a crontab has
pub record ReadsFile (tells : Bool) (path bytes : List ℕ) (old new : InputAt) : Type 0 where
  pub asks : AsksFile old new
  pub given : tells ≡ true → IsInputPrefix (old.contents.file path) (MAX_CRONTAB + 1) bytes

-- the text is no longer than a crontab, and this is its first bad line
pub record IsBadAt (line : ℕ) (bytes : List ℕ) : Type 0 where
  pub few : length bytes ≤ MAX_CRONTAB
  pub first : IsFirstBad bytes line

-- why a text gives no entries
abbrev pub StopsText : List ℕ → Cause → Type 0
StopsText bytes (cause.Refused TooLong) = MAX_CRONTAB < length bytes
StopsText bytes (cause.Refused (BadCrontab line)) = IsBadAt line bytes
StopsText bytes cause.Memory = Unit {0}
StopsText bytes _ = ⊥

-- the entries that the text spells, or why there are none
abbrev pub IsOfText : List ℕ → Result (List CronEntry) CommandError → Type 0
IsOfText bytes (Ok entries) = (length bytes ≤ MAX_CRONTAB) × SpellsCrontab bytes entries
IsOfText bytes (Err stopped) = StopsText bytes stopped.cause

-- the file gave a text, which answers so
pub record GaveText (tells : Bool) (path : List ℕ) (old new : InputAt)
    (result : Result (List CronEntry) CommandError) : Type 0 where
  pub bytes : List ℕ
  pub reads : ReadsFile tells path bytes old new
  pub of_text : IsOfText bytes result

-- why the file gave no text
abbrev pub IsCrontabUnread : InputAt → InputAt → Cause → Type 0
IsCrontabUnread old new cause.InputFault = AsksFile old new × Rose old.sources.input_faults new.sources.input_faults
IsCrontabUnread old new cause.Memory = AsksFile old new
IsCrontabUnread old new _ = ⊥

-- the entries of the file, or why there are none
abbrev pub ReadsEntries : Bool → List ℕ → InputAt → InputAt → Result (List CronEntry) CommandError → Type 0
ReadsEntries tells path old new (Ok entries) = GaveText tells path old new (Ok entries)
ReadsEntries tells path old new (Err stopped) = GaveText tells path old new (Err stopped) ⊎ IsCrontabUnread old new stopped.cause
